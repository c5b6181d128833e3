use Rattle.td_ops.proofs.Refused.{parameters-refused, unknown-refused, not_implemented-refused, misspelled-refused}
use Rattle.td_ops.proofs.Refused.{answer-refused, answer-not_implemented, answer-misspelled}
use Rattle.td_ops.proofs.laws.bodies_are_refused.Goals as goal

pub returns-clause-parameters : goal.returns-clause-parameters
returns-clause-parameters c = parameters-refused

pub returns-clause-unknown : goal.returns-clause-unknown
returns-clause-unknown c = unknown-refused

pub returns-clause-not_implemented : goal.returns-clause-not_implemented
returns-clause-not_implemented c = not_implemented-refused

pub returns-clause-misspelled : goal.returns-clause-misspelled
returns-clause-misspelled c = misspelled-refused

pub returns-clause-replies : goal.returns-clause-replies
returns-clause-replies c = answer-refused

pub returns-clause-reply_not_implemented : goal.returns-clause-reply_not_implemented
returns-clause-reply_not_implemented c = answer-not_implemented

pub returns-clause-reply_misspelled : goal.returns-clause-reply_misspelled
returns-clause-reply_misspelled c = answer-misspelled

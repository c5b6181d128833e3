use Rattle.td_ops.specs.Shapes.{results}
use Rattle.td_ops.specs.Answers.{answer_of}
use Rattle.td_ops.proofs.Heard.{outcome-back}
use Rattle.td_ops.proofs.laws.outcomes_are_read_back.Goals as goal

pub returns-clause-results : goal.returns-clause-results
returns-clause-results c = λ shape. (results shape).lawful

pub returns-clause-lawful : goal.returns-clause-lawful
returns-clause-lawful c = λ operation status. (answer_of operation status).lawful

pub returns-clause-back : goal.returns-clause-back
returns-clause-back c = outcome-back

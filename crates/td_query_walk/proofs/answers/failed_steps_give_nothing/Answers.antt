use Rattle.td_query_walk.proofs.Answering.{no_offers, no_limits}
use Rattle.td_query_walk.proofs.answers.failed_steps_give_nothing.Goals as goal

pub returns-clause-offers : goal.returns-clause-offers
returns-clause-offers c = no_offers

pub returns-clause-limits : goal.returns-clause-limits
returns-clause-limits c = no_limits

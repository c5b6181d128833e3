use Rattle.td_query_walk.proofs.Walking.{worked}
use Rattle.td_query_walk.proofs.examples.worked_walks.Goals as goal

pub returns : goal.returns
returns c = worked

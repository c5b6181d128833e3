use Rattle.td_query_walk.proofs.Counting.{worked}
use Rattle.td_query_walk.proofs.faults.worked_faults.Goals as goal

pub returns : goal.returns
returns c = worked

use Rattle.td_query_walk.proofs.Beginning.{begun}
use Rattle.td_query_walk.proofs.examples.worked_beginnings.Goals as goal

pub returns : goal.returns
returns c = begun

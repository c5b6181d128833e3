use Rattle.td_query_walk.proofs.Ordering.{along-path}
use Rattle.td_query_walk.proofs.orders.paths_ask_once.Goals as goal

pub returns : goal.returns
returns c = along-path

use Rattle.td_query_walk.proofs.Ordering.{in-order}
use Rattle.td_query_walk.proofs.orders.searches_ask_in_order.Goals as goal

pub returns : goal.returns
returns c = in-order

use Rattle.td_query_walk.proofs.Stepping.{all-step}
use Rattle.td_query_walk.proofs.orders.walks_step_in_order.Goals as goal

pub returns : goal.returns
returns c = all-step

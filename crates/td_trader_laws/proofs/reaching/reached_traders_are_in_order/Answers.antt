use Rattle.td_trader_laws.proofs.Reached.{in-order}
use Rattle.td_trader_laws.proofs.reaching.reached_traders_are_in_order.Goals as goal

pub returns : goal.returns
returns c = λ t r. in-order r

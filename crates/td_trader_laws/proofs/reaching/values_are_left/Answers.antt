use Rattle.td_trader.proofs.MarkedOnce.{left-over}
use Rattle.td_trader_laws.proofs.reaching.values_are_left.Goals as goal

pub returns : goal.returns
returns c = left-over

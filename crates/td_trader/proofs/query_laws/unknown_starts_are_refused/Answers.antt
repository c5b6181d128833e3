use Rattle.td_trader.proofs.Starting.{unknown_start}
use Rattle.td_trader.proofs.query_laws.unknown_starts_are_refused.Goals as goal

pub returns : goal.returns
returns c = unknown_start

use Rattle.td_trader.proofs.Begun.{queries_begin}
use Rattle.td_trader.proofs.begin_laws.queries_begin.Goals as goal

pub returns : goal.returns
returns c = queries_begin

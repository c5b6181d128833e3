use Rattle.td_trader.proofs.Taken.{taken_are_read}
use Rattle.td_trader.proofs.query_laws.taken_queries_are_read.Goals as goal

pub returns : goal.returns
returns c = taken_are_read

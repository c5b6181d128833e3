use Rattle.td_shared.proofs.Streaming.{from_none}
use Rattle.td_shared.proofs.session.serve_shared.Goals as goal

pub returns-in_default-clause-serves : goal.returns-in_default-clause-serves
returns-in_default-clause-serves g c = from_none g.T.Traders.others g.T.Traders.later _ _ _ _ _ _ _ _

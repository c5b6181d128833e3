use Rattle.td_shared_sessions_laws.proofs.Apart.{one_history}
use Rattle.td_shared_sessions_laws.proofs.laws.sessions_share_one_history.Goals as goal

pub returns : goal.returns
returns g c = one_history _

use Rattle.td_name_sessions_laws.proofs.AllSessions.{of-sessions}
use Rattle.td_name_sessions_laws.proofs.laws.each_change_is_of_one_session.Goals as goal

pub returns : goal.returns
returns g c = of-sessions _

use Rattle.td_sessions_laws.proofs.Worked.{worked}
use Rattle.td_sessions_laws.proofs.laws.worked_entries.Goals as goal

pub returns : goal.returns
returns c = worked

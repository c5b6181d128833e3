use Rattle.td_log_laws.proofs.Worked.{worked}
use Rattle.td_log_laws.proofs.laws.worked_logs.Goals as goal

pub returns : goal.returns
returns c = worked

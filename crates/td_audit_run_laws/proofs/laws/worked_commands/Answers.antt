use Rattle.td_audit_run_laws.proofs.Worked.{worked}
use Rattle.td_audit_run_laws.proofs.laws.worked_commands.Goals as goal

pub returns : goal.returns
returns c = worked

use Rattle.td_audit_laws.proofs.Schedules.{lines-are-schedules}
use Rattle.td_audit_laws.proofs.laws.accepted_lines_are_schedules.Goals as goal

pub returns : goal.returns
returns c = lines-are-schedules

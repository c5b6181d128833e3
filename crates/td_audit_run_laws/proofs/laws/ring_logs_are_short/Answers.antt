use Rattle.td_audit_run_laws.proofs.Ringing.{rings-fit, rings-right, rings-short}
use Rattle.td_audit_run_laws.proofs.laws.ring_logs_are_short.Goals as goal

pub returns-clause-lines : goal.returns-clause-lines
returns-clause-lines c = rings-short c.generated_files_are_read.ensures c.generated_files_open.ensures

pub returns-clause-bytes : goal.returns-clause-bytes
returns-clause-bytes c = rings-fit c.generated_files_are_read.ensures c.generated_files_open.ensures

pub returns-clause-right : goal.returns-clause-right
returns-clause-right c =
    rings-right c.verdicts_are_one.ensures c.generated_files_are_read.ensures c.generated_files_open.ensures

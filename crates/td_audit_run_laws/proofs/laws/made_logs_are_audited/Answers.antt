use Rattle.td_audit_run_laws.proofs.Auditing.{rings-pass}
use Rattle.td_audit_run_laws.proofs.Filed.{files-pass}
use Rattle.td_audit_run_laws.proofs.laws.made_logs_are_audited.Goals as goal

pub returns-clause-files : goal.returns-clause-files
returns-clause-files c = files-pass

pub returns-clause-rings : goal.returns-clause-rings
returns-clause-rings c =
    rings-pass c.verdicts_are_one.ensures c.generated_files_are_read.ensures c.generated_files_open.ensures

use Rattle.td_file.specs.Files.{seen}
use Rattle.td_audit_run.specs.Audits.AuditsText.{opens}
use Rattle.td_audit_run.proofs.Named.{refusing}
use Rattle.td_audit_run.proofs.auditing.audit_text.Goals as goal

pub returns-in-Ok : goal.returns-in-Ok
returns-in-Ok g c = opens (seen c.in-Ok.opened) c.in-Ok.ensures.answers c.audit_named.ensures

pub returns-in-Err-Line : goal.returns-in-Err-Line
returns-in-Err-Line g c =
    refusing c.args.text.now _ _ _ _ c.in-Err-Line.field-0 c.in-Err-Line.number _ c.in-Err-Line.cause _
    c.in-Err-Line.field-0-is c.in-Err-Line.ensures.answers c.in-Err-Line.number-is c.in-Err-Line.cause-is

use Rattle.td_file.specs.Files.{seen}
use Rattle.td_audit_run.specs.Audits.{SaysLog}
use Rattle.td_audit_run.proofs.Said.{with_text}
use Rattle.td_audit_run.proofs.logging.log_text.Goals as goal

pub returns-in-Ok : goal.returns-in-Ok
returns-in-Ok g c =
    with_text SaysLog c.args.text.now (seen c.in-Ok.opened) c.log_opened.result _ _ c.in-Ok.ensures.answers
    c.log_opened.ensures

use Rattle.std.proofs.Common.{◌∙◌}
use Rattle.td_make.specs.Generated.{generated_file}
use Rattle.td_audit_run.specs.Audits.{SaysLog}
use Rattle.td_audit_run.proofs.Said.{of_text}
use Rattle.td_audit_run.proofs.logging.print_log.Goals as goal

pub returns-in-Ok : goal.returns-in-Ok
returns-in-Ok g c =
    of_text SaysLog c.as_slice.result.now (generated_file c.args.count) c.log_text.result _ _
    (c.as_slice.ensures ∙ c.in-Ok.ensures) c.log_text.ensures

use Rattle.std.proofs.Common.{◌∙◌}
use Rattle.td_audit_run.specs.Audits.{yes_line}
use Rattle.td_audit_run.specs.declared.audited.Audited.TheVariants as audited
use Rattle.td_audit_run.proofs.Said.{as_text}
use Rattle.td_audit_run.proofs.auditing.print_yes.Goals as goal

pub returns-in-Ok : goal.returns-in-Ok
returns-in-Ok g c =
    as_text audited.Printed c.as_slice.result.now (yes_line c.args.count) c.print.result _ _
    (c.as_slice.ensures.value ∙ c.in-Ok.ensures) c.print.ensures

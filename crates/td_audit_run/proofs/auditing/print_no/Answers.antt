use Rattle.std.proofs.Common.{◌∙◌}
use Rattle.td_audit_run.specs.Audits.{no_line}
use Rattle.td_audit_run.specs.declared.audited.Audited.TheVariants as audited
use Rattle.td_audit_run.proofs.Said.{as_text}
use Rattle.td_audit_run.proofs.auditing.print_no.Goals as goal

pub returns-in-Ok : goal.returns-in-Ok
returns-in-Ok g c =
    as_text audited.Denied c.as_slice.result.now (no_line c.args.number c.args.cause) c.print_denial.result _ _
    (c.as_slice.ensures.value ∙ c.in-Ok.ensures) c.print_denial.ensures

use Rattle.std.proofs.Common.{inl, inr, refl}
use Rattle.td_file.specs.Files.{seen}
use Rattle.td_audit_run.specs.Audits.{SaysVerdict, no_line, yes_line}
use Rattle.td_audit_run.specs.declared.audited.Audited.TheVariants as audited
use Rattle.td_audit_run.proofs.Said.{said}
use Rattle.td_audit_run.proofs.auditing.audit_opened.Goals as goal

pub returns-in-Yes : goal.returns-in-Yes
returns-in-Yes g c =
    said (SaysVerdict c.args.log.now (seen c.args.opened)) audited.Printed (yes_line c.in-Yes.count) c.print_yes.result
    _ _ (c.in-Yes.count, c.in-Yes.ensures, refl) (inl (c.in-Yes.count, c.in-Yes.ensures, refl)) c.print_yes.ensures

pub returns-in-No : goal.returns-in-No
returns-in-No g c =
    said (SaysVerdict c.args.log.now (seen c.args.opened)) audited.Denied (no_line c.in-No.number c.in-No.cause)
    c.print_no.result _ _ (c.in-No.number, c.in-No.cause, c.in-No.ensures, refl)
    (inr (c.in-No.number, c.in-No.cause, c.in-No.ensures, refl)) c.print_no.ensures

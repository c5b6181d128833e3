use Rattle.std.proofs.Common.{inl, refl, sym, subst, List, ℕ}
use Rattle.td_audit.specs.Making.{IsLog}
use Rattle.td_file.specs.Files.{seen}
use Rattle.td_audit_run.specs.Audits.{SaysLog}
use Rattle.td_audit_run.specs.declared.audited.Audited.TheVariants as audited
use Rattle.td_audit_run.proofs.Said.{said}
use Rattle.td_audit_run.proofs.logging.log_opened.Goals as goal

pub returns-in-Ok : goal.returns-in-Ok
returns-in-Ok g c =
    let logged : IsLog c.args.opened.solo.traders.items c.args.opened.home c.as_slice.result.now =
    subst (λ (t : List ℕ). IsLog c.args.opened.solo.traders.items c.args.opened.home t) (sym c.as_slice.ensures)
    c.in-Ok.ensures in
    said (SaysLog (seen c.args.opened)) audited.Printed c.as_slice.result.now c.print.result _ _ (refl, logged)
    (inl (refl, logged)) c.print.ensures

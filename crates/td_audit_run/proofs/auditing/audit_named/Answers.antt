use Rattle.td_file.specs.Files.{seen}
use Rattle.td_audit_run.proofs.Named.{named}
use Rattle.td_audit_run.proofs.auditing.audit_named.Goals as goal

pub returns-in-Ok : goal.returns-in-Ok
returns-in-Ok g c =
    named (seen c.args.opened) _ _ _ _ c.audit_opened.result _ _ c.in-Ok.text c.as_slice.result.now c.as_slice.ensures
    c.in-Ok.ensures.gives c.audit_opened.ensures

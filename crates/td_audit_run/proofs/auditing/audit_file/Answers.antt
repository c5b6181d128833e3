use Rattle.td_command.specs.Shelves.{shelves}
use Rattle.td_audit_run.proofs.Named.{from_file}
use Rattle.td_audit_run.proofs.auditing.audit_file.Goals as goal

pub returns-in-Ok : goal.returns-in-Ok
returns-in-Ok g c =
    from_file
    (shelves (g.F.Texts.content c.args.files.now) (g.F.Texts.faults c.args.files.now)
    (g.F.Texts.faults c.audit_text.new.files))
    c.args.file.now c.args.log.now c.audit_text.result _ _ _ c.in-Ok.text c.as_slice.result.now _ c.as_slice.ensures
    c.in-Ok.ensures.kept c.in-Ok.ensures.gives c.audit_text.ensures

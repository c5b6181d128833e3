use Rattle.std.proofs.Common.{codes, sym, ◌∙◌}
use Rattle.std.specs.Str.{bytes_eq}
use Rattle.td_command.specs.Shelves.{shelves}
use Rattle.td_audit_run.proofs.Named.{by_word}
use Rattle.td_audit_run.proofs.command.audit_named.Goals as goal

pub returns-then-eq : goal.returns-then-eq
returns-then-eq g c =
    by_word (bytes_eq c.args.word.now (codes "audit")) c.args.file.now c.args.log.now
    (shelves (g.F.Texts.content c.args.files.now) (g.F.Texts.faults c.args.files.now)
    (g.F.Texts.faults c.audit_file.new.files))
    c.audit_file.result _ _ (sym c.eq.ensures ∙ c.if-eq.true) c.audit_file.ensures

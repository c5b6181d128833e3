use Rattle.std.proofs.Common.{length, sym, ◌∙◌}
use Rattle.std.proofs.lemmas.Bool.{eqb-true}
use Rattle.std.proofs.lemmas.List.{nil_from_length}
use Rattle.td_audit.proofs.FirstLine.{none-opened}
use Rattle.td_audit.proofs.auditing.opening_of.Goals as goal

pub returns-then-is_empty-clause-opening : goal.returns-then-is_empty-clause-opening
returns-then-is_empty-clause-opening c =
    none-opened c.args.log.now c.new.result
    (nil_from_length c.args.log.now (eqb-true (length c.args.log.now) 0 (sym c.is_empty.ensures ∙ c.if-is_empty.true)))
    c.new.ensures

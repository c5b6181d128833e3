use Rattle.std.proofs.Common.{Ok, Err, None, refl}
use Rattle.std.proofs.lemmas.Result.{err_from_is_err_and}
use Rattle.td_typecode.specs.declared.mode.Mode.TheVariants.{Outer}
use Rattle.td_typecode.specs.Codes.{codes}
use Rattle.td_typecode.specs.GraphCodes.{edges}
use Rattle.td_indirection.specs.States.{empty}
use Rattle.td_typecode.proofs.OutermostParts.{failed-plainly}
use Rattle.td_typecode.proofs.outermost.outer_at.Goals as goal

pub returns-in-Ok : goal.returns-in-Ok
returns-in-Ok c = rw c.in-Ok.ensures refl

pub returns-in_ok-code-in-Err : goal.returns-in_ok-code-in-Err
returns-in_ok-code-in-Err c =
    let a = c.args.r.now in
    failed-plainly c.in-Err.fault ((codes c.args.levels Outer).format.reads a)
    ((edges c.args.levels Outer None).format.reads empty a) c.linked_behind.new.r (Ok c.in_ok-code-in-Err.code)
    c.in-Err.ensures (rw c.copied-again.ensures.same at c.in_ok-code-in-Err.ensures)

pub returns-in_err-code-in-Err : goal.returns-in_err-code-in-Err
returns-in_err-code-in-Err c =
    let p = err_from_is_err_and c.from_residual.result c.from_residual.ensures.1 in
    let a = c.args.r.now in
    rw p.1
    (failed-plainly c.in-Err.fault ((codes c.args.levels Outer).format.reads a)
    ((edges c.args.levels Outer None).format.reads empty a) c.linked_behind.new.r (Err p.0) c.in-Err.ensures
    (rw (c.copied-again.ensures.same, ← p.2) at c.in_err-code-in-Err.ensures))

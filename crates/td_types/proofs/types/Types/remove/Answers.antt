use Rattle.std.proofs.lemmas.Result.{err_from_is_err_and}
use Rattle.td_types.specs.Calls.{remove_type}
use Rattle.td_types.proofs.Judging.{refused-freely, remove_content, remove_keeps}
use Rattle.td_types.proofs.types.Types.remove.Goals as goal

pub returns-in_err-accepted-clause-answer : goal.returns-in_err-accepted-clause-answer
returns-in_err-accepted-clause-answer c =
    let p = err_from_is_err_and c.from_residual.result c.from_residual.ensures.1 in
    rw (p.1, p.2) (refused-freely (remove_type c.args.self.now c.args.name.now) c.args.self.now
    c.in_err-accepted.field-0.0
    (c.in_err-accepted.ensures (remove_type c.args.self.now c.args.name.now) c.judge_remove.ensures))

pub invariant_of-self : goal.invariant_of-self
invariant_of-self c =
    remove_keeps c.self.inside.entries c.remove.new.self c.self.inside.interfaces c.self.inside.last c.args.name.now
    c.args.self.now c.self.view_is c.self.invariant (rw c.as_slice.ensures at c.remove.ensures)
    (c.in_ok-accepted.ensures (remove_type c.args.self.now c.args.name.now) c.judge_remove.ensures)

pub returns-clause-answer : goal.returns-clause-answer
returns-clause-answer c =
    remove_content c.self.inside.entries c.remove.new.self c.self.inside.interfaces c.self.inside.last c.args.name.now
    c.args.self.now c.self.view_is (rw c.as_slice.ensures at c.remove.ensures)
    (c.in_ok-accepted.ensures (remove_type c.args.self.now c.args.name.now) c.judge_remove.ensures)

pub returns-clause-valid : goal.returns-clause-valid
returns-clause-valid c =
    (remove_keeps c.self.inside.entries c.remove.new.self c.self.inside.interfaces c.self.inside.last c.args.name.now
    c.args.self.now c.self.view_is c.self.invariant (rw c.as_slice.ensures at c.remove.ensures)
    (c.in_ok-accepted.ensures (remove_type c.args.self.now c.args.name.now) c.judge_remove.ensures)).valid

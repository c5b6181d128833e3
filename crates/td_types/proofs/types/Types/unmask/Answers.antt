use Rattle.std.proofs.Common.{false}
use Rattle.std.proofs.lemmas.Result.{err_from_is_err_and}
use Rattle.td_types.specs.Calls.{unmask_type}
use Rattle.td_types.proofs.Judging.{refused-freely, unmask_content, mask_keeps}
use Rattle.td_types.proofs.types.Types.unmask.Goals as goal

pub returns-in_err-accepted-clause-answer : goal.returns-in_err-accepted-clause-answer
returns-in_err-accepted-clause-answer c =
    let p = err_from_is_err_and c.from_residual.result c.from_residual.ensures.1 in
    rw (p.1, p.2) (refused-freely (unmask_type c.args.self.now c.args.name.now) c.args.self.now
    c.in_err-accepted.field-0.0
    (c.in_err-accepted.ensures (unmask_type c.args.self.now c.args.name.now) c.judge_unmask.ensures))

pub invariant_of-self : goal.invariant_of-self
invariant_of-self c =
    mask_keeps c.self.inside.entries c.set_mask.new.self c.self.inside.interfaces c.self.inside.last c.args.name.now
    c.args.self.now c.self.view_is false c.self.invariant (rw c.as_slice.ensures at c.set_mask.ensures)

pub returns-clause-answer : goal.returns-clause-answer
returns-clause-answer c =
    unmask_content c.self.inside.entries c.set_mask.new.self c.self.inside.interfaces c.self.inside.last c.args.name.now
    c.args.self.now c.self.view_is (rw c.as_slice.ensures at c.set_mask.ensures)
    (c.in_ok-accepted.ensures (unmask_type c.args.self.now c.args.name.now) c.judge_unmask.ensures)

pub returns-clause-valid : goal.returns-clause-valid
returns-clause-valid c =
    (mask_keeps c.self.inside.entries c.set_mask.new.self c.self.inside.interfaces c.self.inside.last c.args.name.now
    c.args.self.now c.self.view_is false c.self.invariant (rw c.as_slice.ensures at c.set_mask.ensures)).valid

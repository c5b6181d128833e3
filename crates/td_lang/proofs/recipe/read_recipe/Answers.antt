use Rattle.std.proofs.Common.{arith, ◌∙◌, sym}
use Rattle.td_lang.proofs.RecipeParts.{refused, step, moves}
use Rattle.td_lang.proofs.recipe.read_recipe.Goals as goal

pub returns-in_default : goal.returns-in_default
returns-in_default c = (
  omega arith,
  refused c.args.text.now c.split_at.result.1.now c.parts.place c.parts.parts c.parts.invariant.so_far
      c.parts-test.true c.split_at.ensures.back (sym c.in_ok-part.ensures.gives ∙ c.in_default.is),
)

pub overflow_add-place : goal.overflow_add-place
overflow_add-place c =
    let on =
    moves c.args.text.now c.split_at.result.1.now c.parts.place c.in-Some.size c.in-Some.part
    c.parts.invariant.within c.split_at.ensures.back (sym c.in_ok-part.ensures.gives ∙ c.in-Some.is) in
    omega (arith, on.1)

pub parts-smaller : goal.parts-smaller
parts-smaller c =
    let on =
    moves c.args.text.now c.split_at.result.1.now c.parts.place c.in-Some.size c.in-Some.part
    c.parts.invariant.within c.split_at.ensures.back (sym c.in_ok-part.ensures.gives ∙ c.in-Some.is) in
    omega (arith, on.0, on.1)

pub parts-preserved : goal.parts-preserved
parts-preserved c =
    let found = sym c.in_ok-part.ensures.gives ∙ c.in-Some.is in
    let on =
    moves c.args.text.now c.split_at.result.1.now c.parts.place c.in-Some.size c.in-Some.part
    c.parts.invariant.within c.split_at.ensures.back found in
    let so_far =
    step c.args.text.now c.split_at.result.1.now c.parts.place c.in-Some.size c.parts.parts c.in-Some.part
    c.parts.invariant.so_far c.parts.invariant.within c.split_at.ensures.back found in
    record { within = on.1; so_far = rw c.in_ok-push.ensures.ok so_far }

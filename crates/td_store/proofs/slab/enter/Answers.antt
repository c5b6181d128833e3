use Rattle.std.proofs.Common.{◌≡◌, ◌+◌, ◌*◌, ap, ◌∙◌, arith}
use mathlib.Core.Logic.{◌≢◌}
use Rattle.td_store.specs.Slabs.{is_in}
use Rattle.td_store.proofs.Entering.{with_last-is_in}
use Rattle.td_store.proofs.slab.enter.Goals as goal

pub append-requires-2-clause-off : goal.append-requires-2-clause-off
append-requires-2-clause-off c k =
    let x = 3 * c.args.place + 1 in
    let other : x + 1 ≢ x = λ (e : x + 1 ≡ x). absurd (omega arith) in
    let same : x + 1 ≡ 3 * c.args.place + 2 = omega arith in
    ap (is_in (x + 1)) (c.append.ensures.rings k)
    ∙ (with_last-is_in c.args.rings.now.linked.0 x c.args.first k (x + 1) other
    ∙ (ap (λ z. is_in z (c.args.rings.now.linked.0 k)) same ∙ c.requires.second_off k))

use Rattle.std.proofs.Common.{◌≡◌, ℕ, ◌+◌, ◌*◌, List, length, false, sym, ap, ◌∙◌, subst, arith}
use mathlib.Core.Path.{fun_ext}
use Rattle.td_store.specs.Slabs.{is_in}
use Rattle.td_store.specs.Rings.{with_last}
use Rattle.td_store.proofs.slab.put_new.Goals as goal

pub enter-requires-clause-first_off : goal.enter-requires-clause-first_off
enter-requires-clause-first_off g c k =
    let at : length c.args.values.now.items ≡ c.len-place.result = omega (arith, c.args.values.now.ok.0) in
    ap (is_in (3 * c.len-place.result + 1)) (c.reserve.ensures.rings k)
    ∙ subst (λ z. is_in (3 * z + 1) (c.args.rings.now.linked.0 k) ≡ false) at (c.requires.first_off k)

pub enter-requires-clause-second_off : goal.enter-requires-clause-second_off
enter-requires-clause-second_off g c k =
    let at : length c.args.values.now.items ≡ c.len-place.result = omega (arith, c.args.values.now.ok.0) in
    ap (is_in (3 * c.len-place.result + 2)) (c.reserve.ensures.rings k)
    ∙ subst (λ z. is_in (3 * z + 2) (c.args.rings.now.linked.0 k) ≡ false) at (c.requires.second_off k)

pub returns-in-Ok-clause-rings : goal.returns-in-Ok-clause-rings
returns-in-Ok-clause-rings g c k =
    let at : length c.args.values.now.items ≡ c.len-place.result = omega (arith, c.args.values.now.ok.0) in
    c.enter.ensures.rings k ∙ (ap
    (λ (r : ℕ → List ℕ). with_last c.args.second (3 * c.len-place.result + 2)
    (with_last c.args.first (3 * c.len-place.result + 1) r) k)
    (fun_ext c.reserve.ensures.rings)
    ∙ ap (λ z. with_last c.args.second (3 * z + 2) (with_last c.args.first (3 * z + 1) c.args.rings.now.linked.0) k)
    (sym at))

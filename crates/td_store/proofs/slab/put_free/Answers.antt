use Rattle.std.proofs.Common.{◌≡◌, ℕ, ◌+◌, ◌*◌, List, sym, ap, ◌∙◌, arith}
use mathlib.Core.Logic.{◌≢◌}
use mathlib.Core.Path.{fun_ext}
use Rattle.td_store.specs.Slabs.{is_in}
use Rattle.td_store.specs.Rings.{with_last}
use Rattle.td_store.proofs.Core.{without-same, without-is_in}
use Rattle.td_store.proofs.Keeping.{slot-is}
use Rattle.td_store.proofs.slab.put_free.Goals as goal

pub fill-requires : goal.fill-requires
fill-requires g c =
    sym (slot-is c.args.values.now.items c.args.place _ c.requires.there c.index_mut.ensures.value) ∙ c.requires.vacant

pub enter-requires-clause-first_off : goal.enter-requires-clause-first_off
enter-requires-clause-first_off g c k =
    ap (is_in (3 * c.args.place + 1)) (c.unlink.ensures.rings k)
    ∙ without-same (3 * c.args.place + 1) (c.args.rings.now.linked.0 k)

pub enter-requires-clause-second_off : goal.enter-requires-clause-second_off
enter-requires-clause-second_off g c k =
    let other : 3 * c.args.place + 2 ≢ 3 * c.args.place + 1 =
    λ (e : 3 * c.args.place + 2 ≡ 3 * c.args.place + 1). absurd (omega arith) in
    ap (is_in (3 * c.args.place + 2)) (c.unlink.ensures.rings k)
    ∙ (without-is_in (3 * c.args.place + 1) (3 * c.args.place + 2) (c.args.rings.now.linked.0 k) other
    ∙ c.requires.second_off k)

pub returns-clause-rings : goal.returns-clause-rings
returns-clause-rings g c k =
    c.enter.ensures.rings k ∙ ap
    (λ (r : ℕ → List ℕ). with_last c.args.second (3 * c.args.place + 2)
    (with_last c.args.first (3 * c.args.place + 1) r) k)
    (fun_ext c.unlink.ensures.rings)

use Rattle.std.proofs.Common.{◌≡◌, ◌+◌, ◌*◌, ap, ◌∙◌, arith}
use mathlib.Core.Logic.{◌≢◌}
use Rattle.td_store.specs.Slabs.{is_in, without}
use Rattle.td_store.proofs.Core.{without-same, without-is_in}
use Rattle.td_store.proofs.slab.free.Goals as goal

pub append-requires-clause-off : goal.append-requires-clause-off
append-requires-clause-off c k =
    let x = 3 * c.args.place + 1 in
    let other : x ≢ x + 1 = λ (e : x ≡ x + 1). omega arith in
    ap (is_in x) (c.unlink-2.ensures.rings k ∙ ap (without (x + 1)) (c.unlink.ensures.rings k))
    ∙ (without-is_in (x + 1) x _ other ∙ without-same x _)

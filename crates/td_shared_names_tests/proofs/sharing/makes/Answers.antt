use Rattle.std.proofs.Common.{◌∙◌, refl}
use Rattle.td_shared_names_tests.proofs.sharing.makes.Goals as goal

pub loop-line-init : goal.loop-line-init
loop-line-init g c = (refl, refl)

pub loop-line-preserved : goal.loop-line-preserved
loop-line-preserved g c =
    let i = c.loop-line.invariant in
    let e = c.is_so-good.ensures in
    (i.0 ∙ e.0, i.1 ∙ e.1)

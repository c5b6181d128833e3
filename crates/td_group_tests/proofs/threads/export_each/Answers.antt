use Rattle.std.proofs.Common.{◌∙◌, refl}
use Rattle.td_group_tests.proofs.threads.export_each.Goals as goal

pub loop-init : goal.loop-init
loop-init g c = (refl, refl)

pub loop-preserved : goal.loop-preserved
loop-preserved g c =
    let i = c.loop.invariant in
    let e = c.exports.ensures in
    (i.0 ∙ e.0, i.1 ∙ e.1)

use Rattle.std.proofs.Common.{sym, ◌∙◌}
use Rattle.td_typecode.proofs.AtLayers.{first-next, branch-last}
use Rattle.td_typecode.proofs.values.branch_of.Goals as goal

pub loop-i-preserved : goal.loop-i-preserved
loop-i-preserved c =
    first-next c.args.default c.loop-i.i c.args.label.now c.args.arms.now c.index-arms-i.result c.loop-i-test.true
    c.index-arms-i.is (sym c.is_chosen.ensures ∙ c.if-is_chosen.false)
    ∙ c.loop-i.invariant

pub returns : goal.returns
returns c =
    c.default_arm.ensures ∙ branch-last c.args.default c.loop-i.i c.args.label.now c.args.arms.now c.loop-i-test.false
    c.loop-i.invariant

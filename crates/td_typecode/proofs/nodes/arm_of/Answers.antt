use Rattle.std.proofs.Common.{sym, ◌∙◌}
use Rattle.td_typecode.specs.EdgeLayers.{has_number}
use Rattle.td_typecode.proofs.OfNodes.{arm-next, arm-here, arm-last}
use Rattle.td_typecode.proofs.nodes.arm_of.Goals as goal

pub loop-arm-preserved : goal.loop-arm-preserved
loop-arm-preserved c =
    arm-next (has_number c.as_slice-numbers.result.now) c.default_of-default.result c.args.label.now _ c.loop-arm.arm
    c.loop-arm-test.true (sym c.is_chosen.ensures ∙ c.if-is_chosen.false)
    ∙ c.loop-arm.invariant

pub returns-then-is_chosen-clause-value : goal.returns-then-is_chosen-clause-value
returns-then-is_chosen-clause-value c =
    let here =
    arm-here (has_number c.as_slice-numbers.result.now) c.default_of-default.result c.args.label.now _ c.loop-arm.arm
    c.loop-arm-test.true (sym c.is_chosen.ensures ∙ c.if-is_chosen.true) c.loop-arm.invariant in
    sym (rw (c.as_slice-numbers.ensures, c.default_of-default.ensures, c.len-count.ensures) at here)

pub returns-clause-value : goal.returns-clause-value
returns-clause-value c =
    let last =
    arm-last (has_number c.as_slice-numbers.result.now) c.default_of-default.result c.args.label.now _ c.loop-arm.arm
    c.loop-arm-test.false c.loop-arm.invariant in
    rw (c.as_slice-numbers.ensures, c.default_of-default.ensures, c.len-count.ensures) at (c.within.ensures.value ∙ sym last)

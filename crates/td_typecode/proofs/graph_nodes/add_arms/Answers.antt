use Rattle.td_typecode.proofs.OfGraphNodes.{arms-none, arms-on}
use Rattle.td_typecode.proofs.graph_nodes.add_arms.Goals as goal

pub loop-arm-init : goal.loop-arm-init
loop-arm-init c = arms-none c.args.node.now

pub loop-arm-preserved : goal.loop-arm-preserved
loop-arm-preserved c =
    arms-on c.args.node.now c.loop-arm.node c.add_arm.new.node c.args.arms.now c.loop-arm.arm-index
    c.arm-item.result c.loop-arm-test.true c.arm-item.is c.loop-arm.invariant c.in_ok-add_arm.ensures

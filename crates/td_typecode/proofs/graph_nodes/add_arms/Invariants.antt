use Rattle.std.proofs.Common.{◌≡◌, take}
use Rattle.td_typecode.specs.GraphNodes.{with_arms}
use Rattle.td_typecode.proofs.graph_nodes.add_arms.Given as goal

abbrev pub invariant-loop-arm : goal.invariant-loop-arm
invariant-loop-arm l = l.node ≡ with_arms l.initial.node (take l.arm-index l.arms)

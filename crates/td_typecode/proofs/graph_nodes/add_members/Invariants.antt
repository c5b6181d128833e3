use Rattle.std.proofs.Common.{◌≡◌, take}
use Rattle.td_typecode.specs.GraphNodes.{with_members}
use Rattle.td_typecode.proofs.graph_nodes.add_members.Given as goal

abbrev pub invariant-loop-member : goal.invariant-loop-member
invariant-loop-member l = l.node ≡ with_members l.initial.node (take l.member-index l.members)

use Rattle.std.proofs.Common.{◌≡◌, take}
use Rattle.td_typecode.specs.GraphNodes.{with_names}
use Rattle.td_typecode.proofs.graph_nodes.add_names.Given as goal

abbrev pub invariant-loop-name : goal.invariant-loop-name
invariant-loop-name l = l.node ≡ with_names l.initial.node (take l.name-index l.names)

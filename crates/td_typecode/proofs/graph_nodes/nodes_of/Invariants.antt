use Rattle.std.proofs.Common.{◌≡◌, map, take}
use Rattle.td_typecode.specs.GraphNodes.{node_of}
use Rattle.td_typecode.specs.NodeLayers.{known_node}
use Rattle.td_typecode.proofs.graph_nodes.nodes_of.Given as goal

abbrev pub invariant-loop-begun : goal.invariant-loop-begun
invariant-loop-begun l = l.made.items ≡ map (λ b. node_of (known_node b)) (take l.begun-index l.nodes)

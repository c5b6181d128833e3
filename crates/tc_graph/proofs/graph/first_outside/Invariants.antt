use Rattle.std.proofs.Common.{◌≡◌, drop}
use Rattle.tc_graph.specs.Drafts.{first_outside}
use Rattle.tc_graph.proofs.graph.first_outside.Given as goal

abbrev pub invariant-loop-edge : goal.invariant-loop-edge
invariant-loop-edge l = first_outside l.count (drop l.edge-index l.edges) ≡ first_outside l.count l.edges

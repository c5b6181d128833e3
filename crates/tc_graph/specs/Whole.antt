-- Graphs that stand for a TypeCode: no edge leads out of them, and aliases come to an end.
use Rattle.std.specs.Prelude.{ℕ, ◌≡◌, ◌<◌, ◌≤◌, true, List, length}
use Rattle.tc_graph.specs.declared.node.Node.{Node}
use Rattle.tc_graph.specs.Nodes.{most_nodes, node_at, is_alias, edge}
use Rattle.tc_graph.specs.Aliases.{IsInLoop}

-- each edge leads to a node, and each alias has one edge
pub record EdgesLeadInside (g : List Node) : Type 0 where
  pub few : length g ≤ most_nodes
  pub within : (i k : ℕ) → i < length g → k < length (node_at g i).edges → edge (node_at g i) k
      < length g
  pub aliases : (i : ℕ) → i < length g → is_alias (node_at g i) ≡ true → length (node_at g i).edges
      ≡ 1

-- the node at place 0, the root, is there, and no aliases make a loop
pub record IsWhole (g : List Node) : Type 0 where
  pub some : 0 < length g
  pub closed : EdgesLeadInside g
  pub no_loops : (i : ℕ) → i < length g → IsInLoop g i → ⊥

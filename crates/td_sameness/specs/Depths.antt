-- When nothing tells a TypeCode that is no graph and a place of a graph apart down to a depth: as two places of graphs
-- are alike (tc_graph, Sameness), with a TypeCode in place of one of them.
use Rattle.std.specs.Prelude.{◌≡◌, ℕ, zero, suc, ◌<◌, ◌↔◌, IsTrue, List, [], replicate}
use Rattle.tc_graph.specs.declared.node.Node.{Node}
use Rattle.tc_graph.specs.Nodes.{node_at, edge}
use Rattle.tc_graph.specs.Aliases.{bare}
use Rattle.tc_graph.specs.Sameness.{Matches}
use Rattle.td_typecode.specs.Kinds.{indirection}
use Rattle.td_typecode.specs.Same.{Shapes, empty, node, Shape, graph_shape, count, node_numbers, name_count, alike_at}

-- one as the node of a graph that it would be; where its edges lead doesn't count, nor which names it has
abbrev pub as_node : Shape → Node
as_node s = record {
  kind = s.kind;
  id = s.id;
  names = replicate (name_count s.kind s.numbers s.inner) [];
  numbers = node_numbers s.kind s.numbers s.inner;
  edges = replicate (count s.inner) 0;
}

-- the one at an index of a row
abbrev pub shape_at : Shapes → ℕ → Shape
shape_at empty j = graph_shape
shape_at (node l k n i x xs) zero = record { kind = k; numbers = n; id = i; inner = x }
shape_at (node l k n i x xs) (suc j) = shape_at xs j

-- At depth 1 the nodes count, at depth 2 also those in them and those that edges lead to, and so on. No graph stands in
-- the one that is none.
unfoldable pub AlikeAt : ℕ → Shape → List Node → ℕ → Type 0
AlikeAt zero s g p = Unit {0}
AlikeAt (suc d) s g p =
    (s.kind ≡ indirection → ⊥) × Matches (as_node s) (node_at g (bare g p))
    × ((j : ℕ) → j < count s.inner
    → AlikeAt d (shape_at s.inner j) g (edge (node_at g (bare g p)) j))

abbrev pub AtEveryDepth : Type 0
AtEveryDepth = (s : Shape) (g : List Node) (p : ℕ) → IsTrue (alike_at g s p)
    ↔ ((d : ℕ) → AlikeAt d s g p)

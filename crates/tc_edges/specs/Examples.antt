-- Worked examples: which edges are indirections.
use Rattle.std.specs.Prelude.{◌≡◌, true, false, List, [], ◌∷◌, codes}
use Rattle.tc_graph.specs.declared.node.Node.{Node}
use Rattle.tc_graph.specs.Examples.{recursive_graph, unrolled_graph}
use Rattle.tc_edges.specs.Edges.{is_indirection}

-- ---- a struct of two members of one struct: the first edge to it spells it

abbrev pub long_node : Node
long_node = record { kind = 3; id = []; names = []; numbers = []; edges = [] }

abbrev pub inner_node : Node
inner_node = record {
  kind = 15;
  id = [];
  names = codes "P" ∷ codes "a" ∷ [];
  numbers = [];
  edges = 2 ∷ [];
}

abbrev pub outer_node : Node
outer_node = record {
  kind = 15;
  id = [];
  names = codes "S" ∷ codes "x" ∷ codes "y" ∷ [];
  numbers = [];
  edges = 1 ∷ 1 ∷ [];
}

abbrev pub shared_graph : List Node
shared_graph = outer_node ∷ inner_node ∷ long_node ∷ []

pub record WorkedEdges : Type 0 where
  pub spelled : is_indirection recursive_graph 0 0 ≡ false
  pub back : is_indirection recursive_graph 1 0 ≡ true
  pub first : is_indirection shared_graph 0 0 ≡ false
  pub second : is_indirection shared_graph 0 1 ≡ true
  -- unrolled once, only the last edge leads back
  pub unrolled_spelled : is_indirection (unrolled_graph 0) 2 0 ≡ false
  pub unrolled_back : is_indirection (unrolled_graph 0) 3 0 ≡ true

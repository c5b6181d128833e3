-- TypeCodes that are graphs.
use Rattle.std.specs.Prelude.{◌≡◌, ℕ, ℤ, suc, ◌<◌, Bool, true, false, not, ◌&&◌, nat_eq, List, [], ◌∷◌, ◌++◌, length, slice_index}
use Rattle.std.specs.Prelude.{Option, Some, None, is_some}
use Rattle.std.specs.Ordering.{int_eq}
use Rattle.std.specs.Cmp.Lexicographic.{pointwise}
use Rattle.tc_graph.specs.declared.node.Node.{Node}
use Rattle.td_typecode.specs.declared.code.TypeCode.{TypeCode}
use Rattle.td_typecode.specs.Kinds.{indirection}
use Rattle.td_typecode.specs.Same.{Shapes, empty, node, Shape, shape, graph_of, count, labels_in, heads_agree, alike_at}
use Rattle.td_typecode.specs.Same.{alike_along}

abbrev pub IsGraph : TypeCode → Type 0
IsGraph t = is_some (graph_of t) ≡ true

-- no graph stands in them
abbrev pub are_trees : Shapes → Bool
are_trees empty = true
are_trees (node l k n i x xs) = not (nat_eq k indirection) && (are_trees x && are_trees xs)

abbrev pub is_tree : Shape → Bool
is_tree s = not (nat_eq s.kind indirection) && are_trees s.inner

abbrev pub stands_alone : Option (List Node) → Shape → Bool
stands_alone None s = is_tree s
stands_alone (Some graph) s = true

-- it is a graph, or none stands in it
abbrev pub StandsAlone : TypeCode → Type 0
StandsAlone t = stands_alone (graph_of t) (shape t) ≡ true

-- no edge leads out of the graph
pub record LeadsWithin (g : List Node) (edges : List ℕ) : Type 0 where
  pub each : (k : ℕ) → k < length edges → slice_index edges k < length g

-- what counts of one that has names in it (of members or arms) and of a node, wherever edges lead
abbrev pub parts_agree : ℕ → List ℤ → List ℕ → Shapes → Node → Bool
parts_agree k n i x p =
    (heads_agree k i p && nat_eq (suc (count x)) (length p.names))
    && pointwise int_eq (n ++ labels_in x) p.numbers

-- what counts of a kind without parameters and of a node
abbrev pub bare_agrees : List Node → ℕ → Node → Bool
bare_agrees g k p =
    ((heads_agree k [] p && nat_eq 0 (length p.names)) && pointwise int_eq [] p.numbers)
    && alike_along g empty p.edges

-- the first edge leads to the same
abbrev pub first_alike : List Node → Shape → List ℕ → Bool
first_alike g s [] = false
first_alike g s (e ∷ es) = alike_at g s e

-- there is a first edge, and those behind it lead to the same, in order
abbrev pub others_alike : List Node → Shapes → List ℕ → Bool
others_alike g x [] = false
others_alike g x (e ∷ es) = alike_along g x es

-- Which edges of a graph are spelled as indirections (CORBA's chapter on the General Inter-ORB Protocol, "TypeCode").
-- Its nodes are in the order in which they are begun, and each but the first is spelled where an edge first leads to
-- it: that is of the nodes before it the last one that has an edge to it, and the first such edge of this. Any other
-- edge is an indirection.
use Rattle.std.specs.Prelude.{◌≡◌, ℕ, zero, suc, ◌+◌, ◌<◌, nat_eq, nat_lt, Bool, false, not, ◌&&◌, if◌then◌else◌, List, [], ◌∷◌}
use Rattle.std.specs.Prelude.{length, map, slice_index, slice_index_or, Option, Some, None, option_map}
use Rattle.std.specs.List.{range_with_len}
use Rattle.tc_graph.specs.declared.node.Node.{Node}
use Rattle.tc_graph.specs.Nodes.{node_at, edge}
use Rattle.tc_edges.specs.declared.edges.Edge.{Edge}
use Rattle.tc_edges.specs.declared.edges.Spelling.{Spelling}

-- the number of the first of these edges that leads to a place, the edges being counted from k
abbrev pub first_to : ℕ → ℕ → List ℕ → Option ℕ
first_to j k [] = None
first_to j k (e ∷ es) = if nat_eq e j then Some k else first_to j (k + 1) es

abbrev pub or_before : Option Spelling → Option Spelling → Option Spelling
or_before (Some s) o = Some s
or_before None o = o

-- the first edge of the node at place i to the place j
abbrev pub spelled_at : List Node → ℕ → ℕ → Option Spelling
spelled_at g j i =
    option_map (λ k. record { place = i; edge = k }) (first_to j 0 (node_at g i).edges)

-- of the nodes before a place, that of the last one that has an edge to j
unfoldable pub spelled_before : List Node → ℕ → ℕ → Option Spelling
spelled_before g j zero = None
spelled_before g j (suc i) = or_before (spelled_at g j i) (spelled_before g j i)

-- the edge that spells the node at a place; none spells the root
abbrev pub spelled_by : List Node → ℕ → Option Spelling
spelled_by g j = spelled_before g j j

abbrev pub is_edge : Option Spelling → ℕ → ℕ → Bool
is_edge (Some s) i k = nat_eq s.place i && nat_eq s.edge k
is_edge None i k = false

-- whether the edge of number k of the node at place i is an indirection
abbrev pub is_indirection : List Node → ℕ → ℕ → Bool
is_indirection g i k = not (is_edge (spelled_by g (edge (node_at g i) k)) i k)

abbrev pub edge_of : List Node → ℕ → ℕ → Edge
edge_of g i k = record {
  place = edge (node_at g i) k;
  is_indirection = is_indirection g i k;
}

-- of each node the edge that spells it
abbrev pub spellings : List Node → List (Option Spelling)
spellings g = map (spelled_by g) (range_with_len 0 (length g))

-- ---- how they are found

-- no edge leads past so many nodes
pub record LeadWithin (n : ℕ) (edges : List ℕ) : Type 0 where
  pub each : (k : ℕ) → k < length edges → slice_index edges k < n

-- nothing is noted
pub record IsBlank (table : List (Option Spelling)) : Type 0 where
  pub each : (j : ℕ) → slice_index_or table j None ≡ None

-- what is noted for j behind the edges from number k on of the node at place i, besides what was
abbrev pub noted_at : ℕ → ℕ → List ℕ → Option Spelling → ℕ → Option Spelling
noted_at i k edges old j =
    if nat_lt i j then or_before
    (option_map (λ m. record { place = i; edge = m }) (first_to j k edges)) old else old

-- the table of these notes behind all edges of the node at place i
pub record Notes (i : ℕ) (edges : List ℕ) (old new : List (Option Spelling)) : Type 0 where
  pub size : length new ≡ length old
  pub each : (j : ℕ) → j < length old
      → slice_index_or new j None ≡ noted_at i 0 edges (slice_index_or old j None) j

-- The nodes of a graph, each a TypeCode, by their places from 0 on (CORBA's chapter on the interface repository,
-- "TypeCodes").
use Rattle.std.specs.Prelude.{ℕ, Bool, List, [], nat_eq, slice_index, slice_index_or}
use Rattle.tc_graph.specs.declared.node.Node.{Node}

-- how many nodes a graph has at most; this project's choice
abbrev pub most_nodes : ℕ
most_nodes = 4096

-- the number of the kind tk_alias
abbrev pub alias_kind : ℕ
alias_kind = 21

-- a node that was started and isn't filled
abbrev pub blank : ℕ → Node
blank kind = record { kind = kind; id = []; names = []; numbers = []; edges = [] }

-- the node at a place
abbrev pub node_at : List Node → ℕ → Node
node_at g i = slice_index_or g i (blank 0)

-- another name for the node that its one edge leads to
abbrev pub is_alias : Node → Bool
is_alias p = nat_eq p.kind alias_kind

-- the place to which an edge leads
abbrev pub edge : Node → ℕ → ℕ
edge p k = slice_index p.edges k

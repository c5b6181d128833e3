-- Worked examples.
use Rattle.std.specs.Prelude.{ℕ, pos, ◌≡◌, true, false, List, [], ◌∷◌, codes, Ok, Err}
use Rattle.tc_graph.specs.declared.node.Node.{Node}
use Rattle.tc_graph.specs.declared.fault.GraphFault.TheVariants as fault
use Rattle.tc_graph.specs.Nodes.{alias_kind, blank}
use Rattle.tc_graph.specs.Aliases.{bare, IsInLoop}
use Rattle.tc_graph.specs.Drafts.{GraphDraft, fill_answer}
use Rattle.tc_graph.specs.Sameness.{alike}

-- ---- nodes

-- a structure of one member
abbrev pub struct_of : (id name : List ℕ) → ℕ → Node
struct_of id name place = record {
  kind = 15;
  id = id;
  names = name ∷ codes "next" ∷ [];
  numbers = [];
  edges = place ∷ [];
}

-- a sequence; bound 0 is none
abbrev pub sequence_of : (bound place : ℕ) → Node
sequence_of bound place = record {
  kind = 19;
  id = [];
  names = [];
  numbers = pos bound ∷ [];
  edges = place ∷ [];
}

abbrev pub alias_of : ℕ → Node
alias_of place = record {
  kind = alias_kind;
  id = codes "IDL:M:1.0";
  names = codes "M" ∷ [];
  numbers = [];
  edges = place ∷ [];
}

-- an enumeration of these names, besides its own
abbrev pub enum_of : List (List ℕ) → Node
enum_of names = record { kind = 17; id = []; names = codes "E" ∷ names; numbers = []; edges = [] }

abbrev pub n_id : List ℕ
n_id = codes "IDL:N:1.0"

-- ---- graphs

-- struct N, whose one member is a sequence of N
abbrev pub recursive_graph : List Node
recursive_graph = struct_of n_id (codes "N") 1 ∷ sequence_of 0 0 ∷ []

-- the same unrolled once, with a bound of the inner sequence
abbrev pub unrolled_graph : (bound : ℕ) → List Node
unrolled_graph bound = struct_of n_id (codes "N") 1 ∷ sequence_of 0 2 ∷ struct_of n_id (codes "O") 3
    ∷ sequence_of bound 0 ∷ []

-- the same behind aliases
abbrev pub behind_aliases : List Node
behind_aliases = alias_of 3 ∷ alias_of 0 ∷ sequence_of 0 1 ∷ struct_of n_id (codes "N") 2 ∷ []

-- an objref of an id
abbrev pub objref : List ℕ → List Node
objref id = record { kind = 14; id = id; names = [] ∷ []; numbers = []; edges = [] } ∷ []

-- an alias of an alias, and that one and a third are each other's
abbrev pub aliases_in_loop : List Node
aliases_in_loop = alias_of 1 ∷ alias_of 2 ∷ alias_of 1 ∷ []

pub record WorkedSameness : Type 0 where
  pub itself : alike 4 recursive_graph 0 recursive_graph 0 ≡ true
  pub once : alike 8 recursive_graph 0 (unrolled_graph 0) 0 ≡ true
  pub turned : alike 8 (unrolled_graph 0) 0 recursive_graph 0 ≡ true
  -- a bound at the fourth node counts from depth 4 on
  pub shallow : alike 3 recursive_graph 0 (unrolled_graph 5) 0 ≡ true
  pub deep : alike 4 recursive_graph 0 (unrolled_graph 5) 0 ≡ false
  pub aliases : alike 8 recursive_graph 0 behind_aliases 0 ≡ true
  -- an empty id agrees with two that differ
  pub no_id : alike 1 (objref n_id) 0 (objref []) 0 ≡ true
  pub no_id_turned : alike 1 (objref []) 0 (objref (codes "IDL:O:1.0")) 0 ≡ true
  pub two_ids : alike 1 (objref n_id) 0 (objref (codes "IDL:O:1.0")) 0 ≡ false
  -- names don't count, and how many there are does
  pub names : alike 1 (enum_of (codes "A" ∷ codes "B" ∷ []) ∷ []) 0
      (enum_of (codes "C" ∷ codes "D" ∷ []) ∷ []) 0 ≡ true
  pub count : alike 1 (enum_of (codes "A" ∷ []) ∷ []) 0 (enum_of (codes "A" ∷ codes "B" ∷ []) ∷ [])
      0 ≡ false
  -- a kind
  pub kind : alike 1 recursive_graph 0 (sequence_of 0 0 ∷ []) 0 ≡ false

pub record WorkedAliases : Type 0 where
  pub two : bare behind_aliases 1 ≡ 3
  pub none : bare behind_aliases 2 ≡ 2
  pub before : IsInLoop aliases_in_loop 0 → ⊥
  pub first : IsInLoop aliases_in_loop 1
  pub second : IsInLoop aliases_in_loop 2

-- the node at place 0 is filled, that at 1 isn't
abbrev pub half : GraphDraft
half = record { nodes = sequence_of 0 0 ∷ blank 19 ∷ []; filled = true ∷ false ∷ [] }

pub record WorkedFilling : Type 0 where
  pub unfilled : fill_answer half 1 (sequence_of 0 0) ≡ Ok tt
  pub twice : fill_answer half 0 (sequence_of 0 1) ≡ Err (fault.Twice 0)
  pub edge : fill_answer half 0 (sequence_of 0 7) ≡ Err (fault.NoPlace 7)
  pub place : fill_answer half 2 (sequence_of 0 7) ≡ Err (fault.NoPlace 2)

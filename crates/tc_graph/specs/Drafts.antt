-- Graphs that are being made, what each call makes of them, and why it is refused.
use Rattle.std.specs.Prelude.{ℕ, ◌≡◌, ◌<◌, ◌≤◌, Bool, true, false, cond, List, [], ◌∷◌, ◌++◌, length, nat_lt, slice_index_or, slice_set, Option, Some, None, Result, Ok, Err}
use Rattle.tc_graph.specs.declared.node.Node.{Node}
use Rattle.tc_graph.specs.declared.fault.GraphFault.{GraphFault}
use Rattle.tc_graph.specs.declared.fault.GraphFault.TheVariants as fault
use Rattle.tc_graph.specs.Nodes.{most_nodes, blank, node_at, is_alias, edge}
use Rattle.tc_graph.specs.Aliases.{IsInLoop}

-- the nodes that were started, and of each whether it is filled
pub record GraphDraft : Type 0 where
  pub nodes : List Node
  pub filled : List Bool

-- nothing was started
abbrev pub empty : GraphDraft
empty = record { nodes = []; filled = [] }

-- one node more was started
abbrev pub with_blank : GraphDraft → ℕ → GraphDraft
with_blank d kind = record { nodes = d.nodes ++ blank kind ∷ []; filled = d.filled ++ false ∷ [] }

-- the node at a place was filled
abbrev pub with_node : GraphDraft → ℕ → Node → GraphDraft
with_node d place node = record {
  nodes = slice_set d.nodes place node;
  filled = slice_set d.filled place true;
}

abbrev pub is_filled : GraphDraft → ℕ → Bool
is_filled d place = slice_index_or d.filled place false

-- ---- what filling a node answers

-- the first of the edges that leads to none of so many nodes
abbrev pub first_outside : ℕ → List ℕ → Option ℕ
first_outside n [] = None
first_outside n (e ∷ es) = cond (nat_lt e n) (first_outside n es) (Some e)

-- at a place whose node was started, by the first of the edges that leads to no node
abbrev pub fill_started : GraphDraft → ℕ → Option ℕ → Result (Unit {0}) GraphFault
fill_started d place (Some e) = Err (fault.NoPlace e)
fill_started d place None = cond (is_filled d place) (Err (fault.Twice place)) (Ok tt)

-- NoPlace of the place, or else of the first such edge, and else Twice
abbrev pub fill_answer : GraphDraft → ℕ → Node → Result (Unit {0}) GraphFault
fill_answer d place node =
    cond (nat_lt place (length d.nodes))
    (fill_started d place (first_outside (length d.nodes) node.edges)) (Err (fault.NoPlace place))

-- ---- why a graph isn't whole yet

abbrev pub AllFilled : GraphDraft → Type 0
AllFilled d = (i : ℕ) → i < length d.nodes → is_filled d i ≡ true

-- the least place of which it holds
pub record IsLeast (n : ℕ) (P : ℕ → Type 0) (p : ℕ) : Type 0 where
  pub below : p < n
  pub holds : P p
  pub least : (i : ℕ) → i < p → P i → ⊥

-- Open of the least node that isn't filled; where all are, Loop of the least alias of a loop of aliases
abbrev pub IsUnfinished : GraphDraft → GraphFault → Type 0
IsUnfinished d (fault.Open p) = IsLeast (length d.nodes) (λ i. is_filled d i ≡ false) p
IsUnfinished d (fault.Loop p) = AllFilled d × IsLeast (length d.nodes) (IsInLoop d.nodes) p
IsUnfinished d (fault.NoPlace p) = ⊥
IsUnfinished d (fault.Twice p) = ⊥
IsUnfinished d fault.Full = ⊥
IsUnfinished d fault.Memory = ⊥

-- what holds of a draft at any time: an alias that isn't filled has no edge yet
pub record IsValidDraft (d : GraphDraft) : Type 0 where
  pub size : length d.filled ≡ length d.nodes
  pub few : length d.nodes ≤ most_nodes
  pub within : (i k : ℕ) → i < length d.nodes → k < length (node_at d.nodes i).edges
      → edge (node_at d.nodes i) k < length d.nodes
  pub aliases : (i : ℕ) → i < length d.nodes → is_filled d i ≡ true → is_alias (node_at d.nodes i)
      ≡ true → length (node_at d.nodes i).edges ≡ 1

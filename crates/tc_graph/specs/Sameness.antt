-- When two places of two graphs are alike, and two graphs the same (CORBA's chapter on the interface repository, "The
-- TypeCode Interface": the operation `equivalent`): without aliases, ids only where neither is empty, and names don't
-- count, though how many there are does.
use Rattle.std.specs.Prelude.{ℕ, zero, suc, ◌≡◌, ◌<◌, Bool, true, ◌&&◌, ◌||◌, List, [], length, nat_eq}
use Rattle.std.specs.Ordering.{int_eq}
use Rattle.std.specs.Cmp.Lexicographic.{pointwise}
use Rattle.tc_graph.specs.declared.node.Node.{Node}
use Rattle.tc_graph.specs.Nodes.{node_at, edge}
use Rattle.tc_graph.specs.Aliases.{bare}

-- equal where neither is empty
abbrev pub IdsAgree : List ℕ → List ℕ → Type 0
IdsAgree a b = (a ≡ [] → ⊥) → (b ≡ [] → ⊥) → a ≡ b

-- what two nodes have in common, wherever their edges lead
pub record Matches (p q : Node) : Type 0 where
  pub kinds : p.kind ≡ q.kind
  pub ids : IdsAgree p.id q.id
  pub numbers : p.numbers ≡ q.numbers
  pub names : length p.names ≡ length q.names
  pub edges : length p.edges ≡ length q.edges

-- two places that nothing tells apart down to a depth: at depth 1 their nodes count, at depth 2 also those that edges
-- lead to, and so on
unfoldable pub Alike : ℕ → List Node → ℕ → List Node → ℕ → Type 0
Alike zero g i h j = Unit {0}
Alike (suc d) g i h j =
    Matches (node_at g (bare g i)) (node_at h (bare h j))
    × ((k : ℕ) → k < length (node_at g (bare g i)).edges
    → Alike d g (edge (node_at g (bare g i)) k) h (edge (node_at h (bare h j)) k))

-- the roots are alike at every depth
abbrev pub Same : List Node → List Node → Type 0
Same g h = (d : ℕ) → Alike d g 0 h 0

-- ---- the same as truth values

abbrev pub ids_agree : List ℕ → List ℕ → Bool
ids_agree a b = nat_eq (length a) 0 || (nat_eq (length b) 0 || pointwise nat_eq a b)

abbrev pub matches : Node → Node → Bool
matches p q =
    nat_eq p.kind q.kind && (ids_agree p.id q.id && (pointwise int_eq p.numbers q.numbers
    && (nat_eq (length p.names) (length q.names) && nat_eq (length p.edges) (length q.edges))))

unfoldable pub alike : ℕ → List Node → ℕ → List Node → ℕ → Bool
alike zero g i h j = true
alike (suc d) g i h j =
    matches (node_at g (bare g i)) (node_at h (bare h j))
    && pointwise (λ x y. alike d g x h y) (node_at g (bare g i)).edges (node_at h (bare h j)).edges

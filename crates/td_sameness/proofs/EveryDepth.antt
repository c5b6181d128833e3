-- A TypeCode that is no graph and a place of a graph are the same exactly where they are alike at every depth.
use Rattle.std.proofs.Common.{◌≡◌, ℕ, ℤ, zero, suc, ◌<◌, Bool, true, false, not, ◌&&◌, nat_eq, List, [], ◌∷◌, length}
use Rattle.std.proofs.Common.{slice_index, refl, sym, ap, subst, ◌∙◌, arith}
use Rattle.std.specs.Ordering.{int_eq}
use Rattle.std.specs.Cmp.Lexicographic.{pointwise}
use Rattle.std.proofs.lemmas.Bool.{and_parts, and_from, eq-eqb, ne_eqb}
use Rattle.std.proofs.lemmas.List.{length-replicate}
use Rattle.tc_graph.specs.declared.node.Node.{Node}
use Rattle.tc_graph.specs.Nodes.{node_at, edge}
use Rattle.tc_graph.specs.Aliases.{bare}
use Rattle.tc_graph.specs.Sameness.{Matches, matches}
use Rattle.td_typecode.specs.declared.label.Label.{Label}
use Rattle.td_typecode.specs.Kinds.{indirection}
use Rattle.td_typecode.specs.Same.{Shapes, empty, node, Shape, count, kinds_agree, ids_agree, heads_agree, node_agrees}
use Rattle.td_typecode.specs.Same.{node_numbers, name_count, alike_along, alike_at}
use Rattle.td_sameness.specs.Depths.{as_node, shape_at, AlikeAt}
use Rattle.td_sameness.proofs.Matching.{matches-Decides}

abbrev shape_of : ℕ → List ℤ → List ℕ → Shapes → Shape
shape_of k n i x = record { kind = k; numbers = n; id = i; inner = x }

no_graph : (k : ℕ) → not (nat_eq k indirection) ≡ true → k ≡ indirection → ⊥
no_graph k e is =
    let yes : nat_eq k indirection ≡ true = eq-eqb k indirection is in
    let no : not true ≡ true = subst (λ (b : Bool). not b ≡ true) yes e in absurd (cc no)

-- ---- what two nodes have in common

names-long : (s : Shape) → length (as_node s).names ≡ name_count s.kind s.numbers s.inner
names-long s = length-replicate (name_count s.kind s.numbers s.inner) []

edges-long : (s : Shape) → length (as_node s).edges ≡ count s.inner
edges-long s = length-replicate (count s.inner) 0

-- the parts of the test of two nodes
abbrev kind_is : Shape → Node → Bool
kind_is s q = nat_eq s.kind q.kind

abbrev tree_is : Shape → Bool
tree_is s = not (nat_eq s.kind indirection)

abbrev ids_are : Shape → Node → Bool
ids_are s q = ids_agree s.id q.id

abbrev numbers_are : Shape → Node → Bool
numbers_are s q = pointwise int_eq (node_numbers s.kind s.numbers s.inner) q.numbers

abbrev names_are : Shape → Node → Bool
names_are s q = nat_eq (name_count s.kind s.numbers s.inner) (length q.names)

abbrev names_as : Shape → Node → Bool
names_as s q = nat_eq (length (as_node s).names) (length q.names)

abbrev edges_as : Shape → Node → Bool
edges_as s q = nat_eq (length (as_node s).edges) (length q.edges)

matched : (s : Shape) (q : Node) → node_agrees s.kind s.numbers s.id s.inner q ≡ true → count s.inner ≡ length q.edges
    → (s.kind ≡ indirection → ⊥) × Matches (as_node s) q
matched s q e long =
    let parts = and_parts (heads_agree s.kind s.id q && names_are s q) (numbers_are s q) e in
    let heads = and_parts (heads_agree s.kind s.id q) (names_are s q) parts.0 in
    let both = and_parts (kinds_agree s.kind q.kind) (ids_are s q) heads.0 in
    let kinds = and_parts (kind_is s q) (tree_is s) both.0 in
    let names : names_as s q ≡ true =
    subst (λ (n : ℕ). nat_eq n (length q.names) ≡ true) (sym (names-long s)) heads.1 in
    let edges : edges_as s q ≡ true = eq-eqb (length (as_node s).edges) (length q.edges) (edges-long s ∙ long) in
    let all : matches (as_node s) q ≡ true =
    and_from (kind_is s q) (ids_are s q && (numbers_are s q && (names_as s q && edges_as s q))) kinds.0
    (and_from (ids_are s q) (numbers_are s q && (names_as s q && edges_as s q)) both.1
    (and_from (numbers_are s q) (names_as s q && edges_as s q) parts.1
    (and_from (names_as s q) (edges_as s q) names edges))) in
    (no_graph s.kind kinds.1, (matches-Decides (as_node s) q).0 all)

agreed : (s : Shape) (q : Node) → (s.kind ≡ indirection → ⊥) → Matches (as_node s) q
    → (node_agrees s.kind s.numbers s.id s.inner q ≡ true) × (count s.inner ≡ length q.edges)
agreed s q tree m =
    let all : matches (as_node s) q ≡ true = (matches-Decides (as_node s) q).1 m in
    let a = and_parts (kind_is s q) (ids_are s q && (numbers_are s q && (names_as s q && edges_as s q))) all in
    let b = and_parts (ids_are s q) (numbers_are s q && (names_as s q && edges_as s q)) a.1 in
    let n = and_parts (numbers_are s q) (names_as s q && edges_as s q) b.1 in
    let d = and_parts (names_as s q) (edges_as s q) n.1 in
    let none : nat_eq s.kind indirection ≡ false = ne_eqb s.kind indirection tree in
    let plain : tree_is s ≡ true = ap not none in
    let kinds : kinds_agree s.kind q.kind ≡ true = and_from (kind_is s q) (tree_is s) a.0 plain in
    let heads : heads_agree s.kind s.id q ≡ true = and_from (kinds_agree s.kind q.kind) (ids_are s q) kinds b.0 in
    let names : names_are s q ≡ true = subst (λ (n : ℕ). nat_eq n (length q.names) ≡ true) (names-long s) d.0 in
    let both : (heads_agree s.kind s.id q && names_are s q) ≡ true =
    and_from (heads_agree s.kind s.id q) (names_are s q) heads names in
    (and_from (heads_agree s.kind s.id q && names_are s q) (numbers_are s q) both n.0, sym (edges-long s) ∙ m.edges)

-- ---- from the test to every depth

each-cons : (g : List Node) (l : List Label) (k : ℕ) (n : List ℤ) (i : List ℕ) (x xs : Shapes) (p : ℕ) (es : List ℕ)
    → alike_at g (shape_of k n i x) p ≡ true
    → ((j : ℕ) → j < count xs → alike_at g (shape_at xs j) (slice_index es j) ≡ true)
    → (j : ℕ) → j < count (node l k n i x xs)
    → alike_at g (shape_at (node l k n i x xs) j) (slice_index (p ∷ es) j) ≡ true
each-cons g l k n i x xs p es h t zero less = h
each-cons g l k n i x xs p es h t (suc j) less = t j (omega (arith, less))

along-each : (g : List Node) (xs : Shapes) (es : List ℕ) → alike_along g xs es ≡ true
    → (count xs ≡ length es)
    × ((j : ℕ) → j < count xs → alike_at g (shape_at xs j) (slice_index es j) ≡ true)
along-each g empty [] e = (refl, λ j h. absurd (omega (arith, h)))
along-each g empty (p ∷ es) e = absurd (cc e)
along-each g (node l k n i x xs) [] e = absurd (cc e)
along-each g (node l k n i x xs) (p ∷ es) e =
    let parts = and_parts (alike_at g (shape_of k n i x) p) (alike_along g xs es) e in
    let rest = along-each g xs es parts.1 in
    (ap suc rest.0, each-cons g l k n i x xs p es parts.0 rest.1)

pub every-depth : (d : ℕ) (s : Shape) (g : List Node) (p : ℕ) → alike_at g s p ≡ true → AlikeAt d s g p
unfolding AlikeAt
every-depth zero s g p e = tt
every-depth (suc d) s g p e =
    let q = node_at g (bare g p) in
    let parts = and_parts (node_agrees s.kind s.numbers s.id s.inner q) (alike_along g s.inner q.edges) e in
    let each = along-each g s.inner q.edges parts.1 in
    let m = matched s q parts.0 each.0 in
    (m.0, m.1, λ j h. every-depth d (shape_at s.inner j) g (edge q j) (each.1 j h))

-- ---- and back

abbrev EveryDepth : Shape → List Node → ℕ → Type 0
EveryDepth s g p = (d : ℕ) → AlikeAt d s g p

one-node : (s : Shape) (g : List Node) (p : ℕ) → EveryDepth s g p
    → (node_agrees s.kind s.numbers s.id s.inner (node_at g (bare g p)) ≡ true)
    × (count s.inner ≡ length (node_at g (bare g p)).edges)
    × ((j : ℕ) → j < count s.inner → EveryDepth (shape_at s.inner j) g (edge (node_at g (bare g p)) j))
unfolding AlikeAt
one-node s g p all =
    let first = all 1 in
    let a = agreed s (node_at g (bare g p)) first.0 first.1 in
    (a.0, a.1, λ j h d. (all (suc d)).2 j h)

along-all : (g : List Node) (xs : Shapes) (es : List ℕ) → count xs ≡ length es
    → ((j : ℕ) → j < count xs → EveryDepth (shape_at xs j) g (slice_index es j)) → alike_along g xs es ≡ true
along-all g empty [] long all = refl
along-all g empty (p ∷ es) long all = absurd (omega (arith, long))
along-all g (node l k n i x xs) [] long all = absurd (omega (arith, long))
along-all g (node l k n i x xs) (p ∷ es) long all =
    let here = one-node (shape_of k n i x) g p (all 0 (omega arith)) in
    let inner = along-all g x (node_at g (bare g p)).edges here.1 here.2 in
    let rest = along-all g xs es (omega (arith, long)) (λ j h. all (suc j) (omega (arith, h))) in
    and_from (alike_at g (shape_of k n i x) p) (alike_along g xs es)
    (and_from (node_agrees k n i x (node_at g (bare g p))) (alike_along g x (node_at g (bare g p)).edges) here.0 inner)
    rest

pub from-depths : (s : Shape) (g : List Node) (p : ℕ) → ((d : ℕ) → AlikeAt d s g p) → alike_at g s p ≡ true
from-depths s g p all =
    let here = one-node s g p all in
    and_from (node_agrees s.kind s.numbers s.id s.inner (node_at g (bare g p)))
    (alike_along g s.inner (node_at g (bare g p)).edges) here.0
    (along-all g s.inner (node_at g (bare g p)).edges here.1 here.2)

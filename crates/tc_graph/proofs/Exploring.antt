-- A list of pairs each of which is justified by pairs of the list.
use Rattle.std.proofs.Common.{ℕ, zero, suc, ◌≡◌, ◌<◌, ◌≤◌, ◌+◌, List, [], length, slice_index, sym, ap, ◌∙◌, subst, ⊎_elim, arith}
use Rattle.std.proofs.lemmas.Bool.{cases_lt}
use Rattle.tc_graph.specs.declared.node.Node.{Node}
use Rattle.tc_graph.specs.declared.pairs.Pair.{Pair}
use Rattle.tc_graph.specs.Nodes.{node_at, edge}
use Rattle.tc_graph.specs.Aliases.{bare}
use Rattle.tc_graph.specs.Sameness.{Matches, Alike, Same}
use Rattle.tc_graph.specs.Pairs.{pair_at, Has, IsPrefix, AddsOnly, ends_of, AddsEnds}
use Rattle.tc_graph.proofs.PairLists.{prefix-refl, prefix-then, prefix-has}

-- ---- places without aliases

-- two places without aliases that can't be told apart within so many edges
pub AlikeBare : ℕ → List Node → ℕ → List Node → ℕ → Type 0
AlikeBare zero g i h j = Unit {0}
AlikeBare (suc d) g i h j =
    Matches (node_at g i) (node_at h j)
    × ((k : ℕ) → k < length (node_at g i).edges
    → AlikeBare d g (bare g (edge (node_at g i) k)) h (bare h (edge (node_at h j) k)))

pub bare-alike : (d : ℕ) (g : List Node) (i : ℕ) (h : List Node) (j : ℕ) → Alike d g i h j
    → AlikeBare d g (bare g i) h (bare h j)
unfolding Alike AlikeBare
bare-alike zero g i h j a = tt
bare-alike (suc d) g i h j a = (a.0, λ k l. bare-alike d g _ h _ (a.1 k l))

pub alike-bare : (d : ℕ) (g : List Node) (i : ℕ) (h : List Node) (j : ℕ) → AlikeBare d g (bare g i) h (bare h j)
    → Alike d g i h j
unfolding Alike AlikeBare
alike-bare zero g i h j a = tt
alike-bare (suc d) g i h j a = (a.0, λ k l. alike-bare d g _ h _ (a.1 k l))

-- ---- adding the ends of edges

pub adds-none : (ends : ℕ → Pair) (ps : List Pair) → AddsEnds ends 0 ps ps
adds-none ends ps = record {
  front = prefix-refl ps;
  here = λ k l. absurd (omega (arith, l));
  only = λ k l m. absurd (omega (arith, l, m));
}

pub adds-more : (ends : ℕ → Pair) (n : ℕ) (ps qs rs : List Pair) → AddsEnds ends n ps qs → IsPrefix qs rs
    → Has rs (ends n).left (ends n).right → AddsOnly (ends n) qs rs → AddsEnds ends (n + 1) ps rs
adds-more ends n ps qs rs b l h all = record {
  front = prefix-then ps qs rs b.front l;
  here = λ k below. ⊎_elim
      (λ (lt : k < n). prefix-has qs rs _ _ l (b.here k lt))
      (λ (ge : n ≤ k). let e : n ≡ k = omega arith in subst (λ (x : ℕ). Has rs (ends x).left (ends x).right) e h)
      (cases_lt k n);
  only = λ k low high. ⊎_elim
      (λ (lt : k < length qs).
      let o = b.only k low lt in
      let below : o.0 < n + 1 = omega (arith, o.1) in
      (o.0, below, l.kept k lt ∙ o.2))
      (λ (ge : length qs ≤ k). let below : n < n + 1 = omega arith in (n, below, all k ge high))
      (cases_lt k (length qs));
}

-- ---- the pairs so far

-- the nodes match, and the list has the ends of their edges
pub record Justified (g h : List Node) (ps : List Pair) (p : Pair) : Type 0 where
  pub nodes : Matches (node_at g p.left) (node_at h p.right)
  pub ends : (k : ℕ) → k < length (node_at g p.left).edges
      → Has ps (bare g (edge (node_at g p.left) k)) (bare h (edge (node_at h p.right) k))

-- alike within so many edges, and so within fewer
fewer : (m d : ℕ) (g : List Node) (i : ℕ) (h : List Node) (j : ℕ) → m ≤ d → AlikeBare d g i h j → AlikeBare m g i h j
unfolding AlikeBare
fewer zero d g i h j le a = tt
fewer (suc m) zero g i h j le a = absurd (omega (arith, le))
fewer (suc m) (suc d) g i h j le a =
    (a.0, λ k l. fewer m d g (bare g (edge (node_at g i) k)) h (bare h (edge (node_at h j) k)) (omega (arith, le)) (a.1 k l))

-- The list has the roots, the pairs up to a place are justified, and the pair that came after k others is alike within
-- m edges if the roots are within m + k.
pub record Explored (g h : List Node) (ps : List Pair) (at : ℕ) : Type 0 where
  pub root : Has ps (bare g 0) (bare h 0)
  pub done : (k : ℕ) → k < at → Justified g h ps (pair_at ps k)
  pub forced : (k m d : ℕ) → k < length ps → m + k ≤ d → Alike d g 0 h 0
      → AlikeBare m g (pair_at ps k).left h (pair_at ps k).right

pub explored-first : (g h : List Node) (ps : List Pair) (p : Pair) → p.left ≡ bare g 0 → p.right ≡ bare h 0
    → Has ps p.left p.right → AddsOnly p [] ps → Explored g h ps 0
explored-first g h ps p l r has all = record {
  root = subst (λ (y : ℕ). Has ps (bare g 0) y) r (subst (λ (x : ℕ). Has ps x p.right) l has);
  done = λ k below. absurd (omega (arith, below));
  forced = λ k m d below le a.
      let e : pair_at ps k ≡ p = all k (omega arith) below in
      rw (e, l, r) (fewer m d g (bare g 0) h (bare h 0) (omega (arith, le)) (bare-alike d g 0 h 0 a));
}

-- what holds of a pair holds of the ends of its edges, within one edge less
alike-ends : (m : ℕ) (g h : List Node) (i j : ℕ) (k : ℕ) → k < length (node_at g i).edges → AlikeBare (suc m) g i h j
    → AlikeBare m g (bare g (edge (node_at g i) k)) h (bare h (edge (node_at h j) k))
unfolding AlikeBare
alike-ends m g h i j k below a = a.1 k below

alike-matches : (g h : List Node) (i j : ℕ) → AlikeBare 1 g i h j → Matches (node_at g i) (node_at h j)
unfolding AlikeBare
alike-matches g h i j a = a.0

pub explored-more : (g h : List Node) (ps qs : List Pair) (at : ℕ) (ends : ℕ → Pair) (n : ℕ) → Explored g h ps at
    → at < length ps → Matches (node_at g (pair_at ps at).left) (node_at h (pair_at ps at).right)
    → n ≡ length (node_at g (pair_at ps at).left).edges
    → ((k : ℕ) → k < n → (ends k).left ≡ bare g (edge (node_at g (pair_at ps at).left) k))
    → ((k : ℕ) → k < n → (ends k).right ≡ bare h (edge (node_at h (pair_at ps at).right) k))
    → AddsEnds ends n ps qs → Explored g h qs (at + 1)
explored-more g h ps qs at ends n f below m count lefts rights b =
    let here : pair_at qs at ≡ pair_at ps at = b.front.kept at below in
    record {
      root = prefix-has ps qs _ _ b.front f.root;
      done = λ k l. ⊎_elim
          (λ (lt : k < at).
          let e : pair_at qs k ≡ pair_at ps k = b.front.kept k (omega arith) in
          let j = f.done k lt in
          rw e (record { nodes = j.nodes; ends = λ i q. prefix-has ps qs _ _ b.front (j.ends i q) }))
          (λ (ge : at ≤ k).
          let same : k ≡ at = omega arith in
          rw (same, here) (record {
            nodes = m;
            ends = λ i q.
                let within : i < n = omega (arith, q, count) in
                subst (λ (y : ℕ). Has qs (bare g (edge (node_at g (pair_at ps at).left) i)) y) (rights i within)
                (subst (λ (x : ℕ). Has qs x (ends i).right) (lefts i within) (b.here i within));
          }))
          (cases_lt k at);
      forced = λ k m d l le a. ⊎_elim
          (λ (lt : k < length ps).
          let e : pair_at qs k ≡ pair_at ps k = b.front.kept k lt in
          rw e (f.forced k m d lt le a))
          (λ (ge : length ps ≤ k).
          let o = b.only k ge l in
          rw (o.2, lefts o.0 o.1, rights o.0 o.1)
          (alike-ends m g h (pair_at ps at).left (pair_at ps at).right o.0 (omega (arith, o.1, count))
          (f.forced at (suc m) d below (omega (arith, ge, le, below)) a)))
          (cases_lt k (length ps));
    }

-- a turn of the loop: the nodes p and q of the pair match, and the ends of their edges are added
pub explored-step : (g h : List Node) (ps qs : List Pair) (at : ℕ) (pair : Pair) (p q : Node) (lefts rights es fs : List ℕ)
    → Explored g h ps at → at < length ps → pair ≡ pair_at ps at → node_at g pair.left ≡ p → node_at h pair.right ≡ q
    → Matches p q → es ≡ p.edges → fs ≡ q.edges
    → ((k : ℕ) → k < length g → slice_index lefts k ≡ bare g k)
    → ((k : ℕ) → k < length h → slice_index rights k ≡ bare h k)
    → ((k : ℕ) → k < length p.edges → edge p k < length g) → ((k : ℕ) → k < length q.edges → edge q k < length h)
    → AddsEnds (ends_of es fs lefts rights) (length es) ps qs → Explored g h qs (at + 1)
explored-step g h ps qs at pair p q lefts rights es fs f below here left right m ees efs each_left each_right in_left in_right b =
    let np : node_at g (pair_at ps at).left ≡ p = ap (λ (x : Pair). node_at g x.left) (sym here) ∙ left in
    let nq : node_at h (pair_at ps at).right ≡ q = ap (λ (x : Pair). node_at h x.right) (sym here) ∙ right in
    let ce : length es ≡ length p.edges = ap length ees in
    let cf : length p.edges ≡ length q.edges = m.edges in
    explored-more g h ps qs at (ends_of es fs lefts rights) (length es) f below (rw (np, nq) m) (rw np ce)
    (λ k l. rw (np, ees) (each_left (edge p k) (in_left k (omega (arith, l, ce)))))
    (λ k l. rw (nq, efs) (each_right (edge q k) (in_right k (omega (arith, l, ce, cf))))) b

-- ---- the answer

-- each pair of a list all of which is justified is alike at every depth
all-alike : (g h : List Node) (ps : List Pair) → ((k : ℕ) → k < length ps → Justified g h ps (pair_at ps k)) → (d : ℕ)
    → (k : ℕ) → k < length ps → AlikeBare d g (pair_at ps k).left h (pair_at ps k).right
unfolding AlikeBare
all-alike g h ps all zero k below = tt
all-alike g h ps all (suc d) k below = (
  (all k below).nodes,
  λ e within.
      let has = (all k below).ends e within in
      subst (λ (y : ℕ). AlikeBare d g (bare g (edge (node_at g (pair_at ps k).left) e)) h y) has.right
      (subst (λ (x : ℕ). AlikeBare d g x h (pair_at ps has.at).right) has.left (all-alike g h ps all d has.at has.below)),
)

pub explored-all : (g h : List Node) (ps : List Pair) (at : ℕ) → Explored g h ps at → length ps ≤ at → Same g h
explored-all g h ps at f le d =
    let a : AlikeBare d g (pair_at ps f.root.at).left h (pair_at ps f.root.at).right =
    all-alike g h ps (λ k l. f.done k (omega (arith, l, le))) d f.root.at f.root.below in
    alike-bare d g 0 h 0
    (subst (λ (y : ℕ). AlikeBare d g (bare g 0) h y) f.root.right
    (subst (λ (x : ℕ). AlikeBare d g x h (pair_at ps f.root.at).right) f.root.left a))

-- a pair whose nodes don't match tells the roots apart, at any depth above its place
pub explored-apart : (g h : List Node) (ps : List Pair) (at d : ℕ) → Explored g h ps at → at < length ps → at < d
    → (Matches (node_at g (pair_at ps at).left) (node_at h (pair_at ps at).right) → ⊥) → Alike d g 0 h 0 → ⊥
explored-apart g h ps at d f below deep apart a =
    apart (alike-matches g h (pair_at ps at).left (pair_at ps at).right (f.forced at 1 d below (omega (arith, deep)) a))

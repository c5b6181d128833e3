-- How states grow, and what of them stays.
use Rattle.std.proofs.Common.{◌≡◌, ℕ, zero, suc, ◌+◌, ◌<◌, ◌≤◌, List, [], ◌∷◌, ◌++◌, length, refl, sym, ap, ◌∙◌}
use Rattle.std.proofs.Common.{append_assoc, arith, length-append, ⊎_elim}
use Rattle.std.specs.Prelude.{map, slice_index, Some}
use Rattle.std.proofs.lemmas.Bool.{cases_lt}
use Rattle.std.proofs.lemmas.List.{append-nil, map-append, length-map, length_push, get_or_append_left, get_or_push}
use Rattle.td_cdr.specs.Gap.{gap}
use Rattle.td_cdr.specs.Format.{nth}
use Rattle.td_indirection.specs.States.{Slot, CodingState, nodes, places, ulong_place, slot, with_blank, put, with_node}
use Rattle.td_indirection.specs.States.{KeepsSlots, AreAlike}
use Rattle.td_indirection.specs.States.{IsTableOf, IsRising}

pub nth-left : {Y : Type 0} (xs ys : List Y) (i : ℕ) → i < length xs → nth (xs ++ ys) i ≡ nth xs i
nth-left [] ys i h = absurd (omega (arith, h))
nth-left (x ∷ xs) ys zero h = refl
nth-left (x ∷ xs) ys (suc i) h = nth-left xs ys i (omega (arith, h))

pub nth-seam : {Y : Type 0} (xs : List Y) (y : Y) (ys : List Y) → nth (xs ++ y ∷ ys) (length xs)
    ≡ Some y
nth-seam [] y ys = refl
nth-seam (x ∷ xs) y ys = nth-seam xs y ys

-- ---- growing

pub stays : {N : Type 0} (s : CodingState N) → KeepsSlots s s
stays s = record { more = []; table = sym (append-nil s.table); base = refl }

pub grows-on : {N : Type 0} (s mid next : CodingState N) → KeepsSlots s mid → KeepsSlots mid next
    → KeepsSlots s next
grows-on {N} s mid next g h = record {
  more = g.more ++ h.more;
  table = h.table ∙ ap (λ (t : List (Slot N)). t ++ h.more) g.table
      ∙ append_assoc s.table g.more h.more;
  base = h.base ∙ g.base;
}

pub grows-length : {N : Type 0} (s next : CodingState N) (g : KeepsSlots s next)
    → length next.table ≡ length s.table + length g.more
grows-length {N} s next g = ap (length {A = Slot N}) g.table ∙ length-append s.table g.more

pub nodes-length : {N : Type 0} (s : CodingState N) → length (nodes s) ≡ length s.table
nodes-length s = length-map s.table (λ x. x.node)

pub grows-nodes : {N : Type 0} (s next : CodingState N) (g : KeepsSlots s next)
    → nodes next ≡ nodes s ++ map (λ x. x.node) g.more
grows-nodes {N} s next g =
    ap (λ (t : List (Slot N)). map (λ x. x.node) t) g.table
    ∙ map-append (λ (x : Slot N). x.node) s.table g.more

pub agrees-before : {N : Type 0} (graph : List N) (mid next : CodingState N) (from : ℕ)
    → KeepsSlots mid next
    → IsTableOf graph next from → IsTableOf graph mid from
agrees-before graph mid next from g a = record {
  each = λ i h l.
      let len = grows-length mid next g in
      let shorter = nodes-length mid in
      a.each i h (omega (arith, l, len))
      ∙ ap (λ (xs : List _). nth xs i) (grows-nodes mid next g)
      ∙ nth-left (nodes mid) (map (λ x. x.node) g.more) i (omega (arith, l, shorter));
}

pub agrees-from : {N : Type 0} (graph : List N) (next : CodingState N) (from on : ℕ) → from ≤ on
    → IsTableOf graph next from → IsTableOf graph next on
agrees-from graph next from on h a = record { each = λ i l m. a.each i (omega (arith, h, l)) m }

pub alike-length : {N : Type 0} (s u : CodingState N) → AreAlike s u → length s.table
    ≡ length u.table
alike-length {N} s u a = sym (nodes-length s) ∙ ap (length {A = N}) a.nodes ∙ nodes-length u

pub rising-on : {N : Type 0} (first : ℕ) (s : CodingState N) (p q : ℕ) → p ≤ q → IsRising first s p
    → IsRising first s q
rising-on first s p q h g = record {
  rising = g.rising;
  above = g.above;
  below = λ i l. let b = g.below i l in omega (arith, b, h);
  reached = let b = g.reached in omega (arith, b, h);
}

-- ---- filling a node in

pub length-put : {N : Type 0} (xs : List (Slot N)) (n : ℕ) (v : N) → length (put xs n v) ≡ length xs
length-put [] n v = refl
length-put (x ∷ xs) zero v = refl
length-put (x ∷ xs) (suc n) v = ap suc (length-put xs n v)

pub places-put : {N : Type 0} (xs : List (Slot N)) (n : ℕ) (v : N)
    → map (λ x. x.place) (put xs n v) ≡ map (λ x. x.place) xs
places-put [] n v = refl
places-put (x ∷ xs) zero v = refl
places-put (x ∷ xs) (suc n) v = ap (λ (ps : List ℕ). x.place ∷ ps) (places-put xs n v)

abbrev put_node : {N : Type 0} → List N → ℕ → N → List N
put_node [] n v = []
put_node (x ∷ xs) zero v = v ∷ xs
put_node (x ∷ xs) (suc n) v = x ∷ put_node xs n v

nodes-put : {N : Type 0} (xs : List (Slot N)) (n : ℕ) (v : N)
    → map (λ x. x.node) (put xs n v) ≡ put_node (map (λ x. x.node) xs) n v
nodes-put [] n v = refl
nodes-put (x ∷ xs) zero v = refl
nodes-put {N} (x ∷ xs) (suc n) v = ap (λ (ns : List N). x.node ∷ ns) (nodes-put xs n v)

pub nth-put-behind : {N : Type 0} (xs : List (Slot N)) (n i : ℕ) (v : N) → n < i
    → nth (map (λ x. x.node) (put xs n v)) i ≡ nth (map (λ x. x.node) xs) i
nth-put-behind [] n i v h = refl
nth-put-behind (x ∷ xs) n zero v h = absurd (omega (arith, h))
nth-put-behind (x ∷ xs) zero (suc i) v h = refl
nth-put-behind (x ∷ xs) (suc n) (suc i) v h = nth-put-behind xs n i v (omega (arith, h))

pub put-seam : {N : Type 0} (xs : List (Slot N)) (y : Slot N) (ys : List (Slot N)) (v : N)
    → put (xs ++ y ∷ ys) (length xs) v ≡ xs ++ slot y.place v ∷ ys
put-seam [] y ys v = refl
put-seam {N} (x ∷ xs) y ys v = ap (λ (zs : List (Slot N)). x ∷ zs) (put-seam xs y ys v)

pub with_node-alike : {N : Type 0} (s u : CodingState N) (n : ℕ) (v : N) → AreAlike s u
    → AreAlike (with_node s n v) (with_node u n v)
with_node-alike {N} s u n v a = record {
  nodes =
      nodes-put s.table n v ∙ ap (λ (ns : List N). put_node ns n v) a.nodes
      ∙ sym (nodes-put u.table n v);
  linked = a.linked;
}

-- a node that was begun is known
pub with_node-table : {N : Type 0} (s end : CodingState N) (place : ℕ) (blank v : N)
    (g : KeepsSlots (with_blank blank place s) end)
    → (with_node end (length s.table) v).table ≡ s.table ++ slot place v ∷ g.more
with_node-table {N} s end place blank v g =
    ap (λ (t : List (Slot N)). put t (length s.table) v)
    (g.table ∙ append_assoc s.table (slot place blank ∷ []) g.more)
    ∙ put-seam s.table (slot place blank) g.more v

pub with_node-grows : {N : Type 0} (s end : CodingState N) (place : ℕ) (blank v : N)
    → KeepsSlots (with_blank blank place s) end → KeepsSlots s (with_node end (length s.table) v)
with_node-grows s end place blank v g = record {
  more = slot place v ∷ g.more;
  table = with_node-table s end place blank v g;
  base = g.base;
}

pub with_blank-alike : {N : Type 0} (blank : N) (p q : ℕ) (s u : CodingState N) → AreAlike s u
    → AreAlike (with_blank blank p s) (with_blank blank q u)
with_blank-alike {N} blank p q s u a = record {
  nodes =
      map-append (λ (x : Slot N). x.node) s.table (slot p blank ∷ [])
      ∙ ap (λ (ns : List N). ns ++ blank ∷ []) a.nodes
      ∙ sym (map-append (λ (x : Slot N). x.node) u.table (slot q blank ∷ []));
  linked = a.linked;
}

pub with_blank-rising : {N : Type 0} (first : ℕ) (blank : N) (s : CodingState N) (before p : ℕ)
    → IsRising first s before
    → before + gap 4 before < p → IsRising first (with_blank blank (ulong_place s before) s) p
with_blank-rising {N} first blank s before p g far =
    let at = ulong_place s before in
    let size : length (s.table ++ slot at blank ∷ [])
    ≡ length s.table + 1 = length_push s.table (slot at blank) in
    let count : length (places s) ≡ length s.table = length-map s.table (λ x. x.place) in
    let all : places (with_blank blank at s) ≡ places s ++ at ∷ [] =
    map-append (λ (x : Slot N). x.place) s.table (slot at blank ∷ []) in
    let old : (i : ℕ) → i < length s.table → slice_index (places (with_blank blank at s)) i
    ≡ slice_index (places s) i =
    λ i h. ap (λ (ps : List ℕ). slice_index ps i) all
    ∙ get_or_append_left (places s) (at ∷ []) 0 i (omega (arith, h, count)) in
    let last : (i : ℕ) → length s.table ≡ i → slice_index (places (with_blank blank at s)) i ≡ at =
    λ i h. ap (λ (ps : List ℕ). slice_index ps i) all
    ∙ get_or_push (places s) at 0 i (omega (arith, h, count)) in
    let reached = g.reached in
    record {
      rising = λ i j less h. ⊎_elim
          (λ (lt : j < length s.table). rw (old i (omega (arith, less, lt)), old j lt)
          (g.rising i j less lt)) (λ (ge : length s.table ≤ j).
          let here : length s.table ≡ j = omega (arith, h, size, ge) in
          let there : i < length s.table = omega (arith, less, here) in
          let low = g.below i there in
          rw (old i there, last j here) (omega (arith, low)))
          (cases_lt j (length s.table));
      above = λ i h. ⊎_elim
          (λ (lt : i < length s.table). let low = g.above i lt in rw (old i lt) low)
          (λ (ge : length s.table ≤ i).
          let here : length s.table ≡ i = omega (arith, h, size, ge) in
          rw (last i here) (omega (arith, reached)))
          (cases_lt i (length s.table));
      below = λ i h. ⊎_elim
          (λ (lt : i < length s.table). let low = g.below i lt in rw (old i lt)
          (omega (arith, low, far))) (λ (ge : length s.table ≤ i).
          let here : length s.table ≡ i = omega (arith, h, size, ge) in rw (last i here)
          (omega (arith, far))) (cases_lt i (length s.table));
      reached = omega (arith, reached, far);
    }

pub with_node-rising : {N : Type 0} (first : ℕ) (s : CodingState N) (p n : ℕ) (v : N)
    → IsRising first s p
    → IsRising first (with_node s n v) p
with_node-rising first s p n v g =
    let size : length (put s.table n v) ≡ length s.table = length-put s.table n v in
    let same : (i : ℕ) → slice_index (places (with_node s n v)) i ≡ slice_index (places s) i =
    λ i. ap (λ (ps : List ℕ). slice_index ps i) (places-put s.table n v) in
    record {
      rising = λ i j less h. rw (same i, same j) (g.rising i j less (omega (arith, h, size)));
      above = λ i h. rw (same i) (g.above i (omega (arith, h, size)));
      below = λ i h. rw (same i) (g.below i (omega (arith, h, size)));
      reached = g.reached;
    }

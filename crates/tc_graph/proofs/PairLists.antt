-- What adding a pair does to a list of pairs and its table.
use Rattle.std.proofs.Common.{ℕ, ◌≡◌, ◌<◌, ◌≤◌, ◌+◌, ◌*◌, Bool, true, false, cond, List, [], ◌∷◌, ◌++◌, length, get_or, set, sym, ap, ◌∙◌, refl, ⊎_elim, arith}
use Rattle.std.specs.Prelude.{not}
use Rattle.std.specs.List.{count_by}
use Rattle.std.proofs.lemmas.Bool.{cases_eq, cases_lt}
use Rattle.std.proofs.lemmas.List.{length-set, get_or_append_left, get_or-set_other, length_push, get_or_push}
use Rattle.std.proofs.lemmas.List.Sums.{sum_by-set}
use Rattle.std.proofs.lemmas.Nat.{same_from_place}
use Rattle.tc_graph.specs.declared.pairs.Pair.{Pair}
use Rattle.tc_graph.specs.Pairs.{no_pair, pair_at, Has, count_unmarked, IsMarked, IsPrefix}

pub pushed-front : (ps : List Pair) (p : Pair) → IsPrefix ps (ps ++ p ∷ [])
pushed-front ps p = record {
  longer = omega (arith, length_push ps p);
  kept = λ k h. get_or_append_left ps (p ∷ []) no_pair k h;
}

pub pushed-at : (ps : List Pair) (p : Pair) (k : ℕ) → length ps ≤ k → k < length (ps ++ p ∷ []) → pair_at (ps ++ p ∷ []) k ≡ p
pushed-at ps p k low high =
    let e : length ps ≡ k = omega (arith, length_push ps p) in get_or_push ps p no_pair k e

pub pushed-has : (ps : List Pair) (p : Pair) → Has (ps ++ p ∷ []) p.left p.right
pushed-has ps p =
    let e : pair_at (ps ++ p ∷ []) (length ps) ≡ p = get_or_push ps p no_pair (length ps) refl in
    record {
      at = length ps;
      below = omega (arith, length_push ps p);
      left = ap (λ (x : Pair). x.left) e;
      right = ap (λ (x : Pair). x.right) e;
    }

pub prefix-refl : (ps : List Pair) → IsPrefix ps ps
prefix-refl ps = record { longer = omega arith; kept = λ k h. refl }

pub prefix-then : (ps qs rs : List Pair) → IsPrefix ps qs → IsPrefix qs rs → IsPrefix ps rs
prefix-then ps qs rs a b = record {
  longer = omega (arith, a.longer, b.longer);
  kept = λ k h. b.kept k (omega (arith, h, a.longer)) ∙ a.kept k h;
}

pub prefix-has : (ps qs : List Pair) (i j : ℕ) → IsPrefix ps qs → Has ps i j → Has qs i j
prefix-has ps qs i j l h = record {
  at = h.at;
  below = omega (arith, h.below, l.longer);
  left = ap (λ (x : Pair). x.left) (l.kept h.at h.below) ∙ h.left;
  right = ap (λ (x : Pair). x.right) (l.kept h.at h.below) ∙ h.right;
}

unmarked-set : (cells : List Bool) (i : ℕ) → i < length cells → get_or cells i false ≡ false
    → count_unmarked (set cells i true) + 1 ≡ count_unmarked cells
unmarked-set cells i h free =
    let e : count_by not (set cells i true) + cond (not (get_or cells i false)) 1 0 ≡ count_by not cells + 0 =
    sum_by-set (λ (b : Bool). cond (not b) 1 0) cells i true false h in
    omega (arith, rw free at e)

pub marked_more : (h w : ℕ) (cells : List Bool) (ps : List Pair) (p : Pair) → IsMarked h w cells ps → p.left < h
    → p.right < w → p.left * w + p.right < length cells → get_or cells (p.left * w + p.right) false ≡ false
    → IsMarked h w (set cells (p.left * w + p.right) true) (ps ++ p ∷ [])
marked_more h w cells ps p t l r fits free = record {
  size = length-set cells (p.left * w + p.right) true ∙ t.size;
  lefts = λ k below. ⊎_elim
      (λ (lt : k < length ps). let e : pair_at (ps ++ p ∷ []) k ≡ pair_at ps k = (pushed-front ps p).kept k lt in rw e (t.lefts k lt))
      (λ (ge : length ps ≤ k). rw (pushed-at ps p k ge below) l)
      (cases_lt k (length ps));
  rights = λ k below. ⊎_elim
      (λ (lt : k < length ps). let e : pair_at (ps ++ p ∷ []) k ≡ pair_at ps k = (pushed-front ps p).kept k lt in rw e (t.rights k lt))
      (λ (ge : length ps ≤ k). rw (pushed-at ps p k ge below) r)
      (cases_lt k (length ps));
  marked = λ i j hi hj m. ⊎_elim
      (λ (e : i * w + j ≡ p.left * w + p.right).
      let a = same_from_place i j p.left p.right w hj r e in rw (a.0, a.1) (pushed-has ps p))
      (λ (ne : i * w + j ≡ p.left * w + p.right → ⊥).
      prefix-has ps (ps ++ p ∷ []) i j (pushed-front ps p)
      (t.marked i j hi hj (sym (get_or-set_other cells (p.left * w + p.right) (i * w + j) true false ne) ∙ m)))
      (cases_eq (i * w + j) (p.left * w + p.right));
  room = omega (arith, t.room, unmarked-set cells (p.left * w + p.right) fits free, length_push ps p);
}

-- A list in order, whose ties stand as they did, is the only one.
use Rattle.std.proofs.Common.{◌≡◌, ℕ, suc, ◌<◌, ◌≤◌, Bool, true, false, not, ◌&&◌, cond, List, [], ◌∷◌, length, get_or}
use Rattle.std.proofs.Common.{refl, sym, ap, ◌∙◌, arith}
use Rattle.std.specs.Cmp.{IsStrictWeakOrder}
use Rattle.std.specs.List.{filter}
use Rattle.std.specs.List.Sorted.{ties}
use Rattle.std.proofs.lemmas.List.Sorted.{sorted_far}
use Rattle.td_lang.specs.declared.expr.Preference.{Preference}
use Rattle.td_value.specs.declared.structures.Offer.{Offer}
use Rattle.td_eval.specs.Ranking.{goes_before, IsArranged}
use Rattle.td_eval.proofs.Ordered.{orders}

is_false : (b : Bool) → (b ≡ true → ⊥) → b ≡ false
is_false true h = absurd (h refl)
is_false false h = refl

module _ {X : Type 0} (lt : X → X → Bool) (o : IsStrictWeakOrder lt) where
  itself : (x : X) → lt x x ≡ false
  itself x = is_false (lt x x) (λ h. let k = o.one_way x x h in cc)

  ties_itself : (x : X) → ties lt x x ≡ true
  ties_itself x = ap (λ b. not b && not b) (itself x)

  -- none of them is less than y
  Above : X → List X → Type 0
  Above y [] = Unit {0}
  Above y (w ∷ ws) = (lt w y ≡ false) × Above y ws

  Up : List X → Type 0
  Up [] = Unit {0}
  Up (y ∷ ys) = Above y ys × Up ys

  above_of : (y : X) (ws : List X) → ((j : ℕ) (d : X) → j < length ws → lt (get_or ws j d) y ≡ false) → Above y ws
  unfolding Above
  above_of y [] h = tt
  above_of y (w ∷ ws) h = (h 0 w (omega arith), above_of y ws (λ j d k. h (suc j) d (omega arith)))

  up_of : (ys : List X) → ((i j : ℕ) (d : X) → i ≤ j → j < length ys → lt (get_or ys j d) (get_or ys i d) ≡ false)
      → Up ys
  unfolding Up
  up_of [] h = tt
  up_of (y ∷ ys) h = (
    above_of y ys (λ j d k. h 0 (suc j) d (omega arith) (omega arith)),
    up_of ys (λ i j d l k. h (suc i) (suc j) d (omega arith) (omega arith)),
  )

  not_tied : (z w y : X) → lt z y ≡ true → lt w y ≡ false → ties lt z w ≡ false
  not_tied z w y h k = by_test (lt z w) (lt w z) (λ e. o.chain z w y e k)
    where
      by_test : (b c : Bool) → (b ≡ false → lt z y ≡ false) → (not b && not c) ≡ false
      by_test true c f = refl
      by_test false c f = absurd (let e = f refl in cc)

  none_tied : (z y : X) (ws : List X) → lt z y ≡ true → Above y ws → filter (ties lt z) ws ≡ []
  unfolding Above
  none_tied z y [] h a = refl
  none_tied z y (w ∷ ws) h a =
      ap (λ b. cond b (w ∷ filter (ties lt z) ws) (filter (ties lt z) ws)) (not_tied z w y h a.0)
      ∙ none_tied z y ws h a.1

  kept : (z : X) (ws : List X) → filter (ties lt z) (z ∷ ws) ≡ z ∷ filter (ties lt z) ws
  kept z ws = ap (λ b. cond b (z ∷ filter (ties lt z) ws) (filter (ties lt z) ws)) (ties_itself z)

  not_below : (y z : X) (ys zs : List X) → Above y ys → filter (ties lt z) (y ∷ ys) ≡ filter (ties lt z) (z ∷ zs)
      → lt z y ≡ false
  unfolding Above
  not_below y z ys zs a e =
      is_false (lt z y) (λ h. let n = none_tied z y (y ∷ ys) h (itself y, a) in let k = kept z zs in cc)

  front_tied : (y z : X) (zs : List X) → lt y z ≡ false → lt z y ≡ false
      → filter (ties lt y) (z ∷ zs) ≡ z ∷ filter (ties lt y) zs
  front_tied y z zs h k =
      let t : ties lt y z ≡ true = ap (λ b. not b && not (lt z y)) h ∙ ap not k in
      ap (λ b. cond b (z ∷ filter (ties lt y) zs) (filter (ties lt y) zs)) t

  rest : (b : Bool) (y : X) (us vs : List X) → cond b (y ∷ us) us ≡ cond b (y ∷ vs) vs → us ≡ vs
  rest true y us vs h = cc
  rest false y us vs h = h

  only : (ys zs : List X) → Up ys → Up zs → ((x : X) → filter (ties lt x) ys ≡ filter (ties lt x) zs) → ys ≡ zs
  unfolding Up
  only [] [] u v h = refl
  only [] (z ∷ zs) u v h = absurd (let e = h z in let k = kept z zs in cc)
  only (y ∷ ys) [] u v h = absurd (let e = h y in let k = kept y ys in cc)
  only (y ∷ ys) (z ∷ zs) u v h =
      let a : lt z y ≡ false = not_below y z ys zs u.0 (h z) in
      let b : lt y z ≡ false = not_below z y zs ys v.0 (sym (h y)) in
      let fronts : y ∷ filter (ties lt y) ys ≡ z ∷ filter (ties lt y) zs =
      sym (kept y ys) ∙ h y ∙ front_tied y z zs b a in
      let same : y ≡ z = cc in
      let tails : ys ≡ zs =
      only ys zs u.1 v.1 (λ x. rest (ties lt x y) y (filter (ties lt x) ys) (filter (ties lt x) zs)
      (h x ∙ ap (λ w. filter (ties lt x) (w ∷ zs)) (sym same))) in
      ap (λ w. w ∷ ys) same ∙ ap (λ ws. z ∷ ws) tails

pub one_arrangement : (p : Preference) (offers xs ys : List Offer) → IsArranged p offers xs → IsArranged p offers ys
    → xs ≡ ys
one_arrangement p offers xs ys a b =
    only (goes_before p) (orders p) xs ys
    (up_of (goes_before p) (orders p) xs (sorted_far (goes_before p) (orders p) xs a.in_order))
    (up_of (goes_before p) (orders p) ys (sorted_far (goes_before p) (orders p) ys b.in_order))
    (λ x. a.ties_as_they_stood x ∙ sym (b.ties_as_they_stood x))

-- Elements of a list that was written or grew.
use Rattle.std.proofs.Common.{◌≡◌, ℕ, zero, suc, List, [], ◌∷◌, ◌++◌, length, map, slice_get, slice_set, Some, refl}
use Rattle.std.proofs.Common.{ap}
use Rattle.std.proofs.Common.{arith, ◌⊎◌, inl, inr}

module _ {A : Type 0} where
  pub get-set_same : (xs : List A) (i : ℕ) (x y : A) → slice_get xs i ≡ Some x → slice_get (slice_set xs i y)
      i ≡ Some y
  get-set_same [] i x y is = absurd (cc)
  get-set_same (z ∷ zs) zero x y is = refl
  get-set_same (z ∷ zs) (suc i) x y is = get-set_same zs i x y is

  pub get-set_other : (xs : List A) (i j : ℕ) (y : A) → (j ≡ i → ⊥) → slice_get (slice_set xs i y) j ≡ slice_get xs j
  get-set_other [] i j y differ = refl
  get-set_other (z ∷ zs) zero zero y differ = absurd (differ refl)
  get-set_other (z ∷ zs) zero (suc j) y differ = refl
  get-set_other (z ∷ zs) (suc i) zero y differ = refl
  get-set_other (z ∷ zs) (suc i) (suc j) y differ = get-set_other zs i j y (λ e. differ (ap suc e))

  -- an element after a write is the written one, or stood there
  pub get-set : (xs : List A) (i j : ℕ) (x y z : A) → slice_get xs i ≡ Some x → slice_get (slice_set xs i y)
      j ≡ Some z → ((j ≡ i) × (y ≡ z)) ⊎ ((j ≡ i → ⊥) × (slice_get xs j ≡ Some z))
  get-set [] i j x y z was is = absurd (cc)
  get-set (w ∷ ws) zero zero x y z was is = inl (refl, cc)
  get-set (w ∷ ws) zero (suc j) x y z was is = inr ((λ e. absurd (omega arith)), is)
  get-set (w ∷ ws) (suc i) zero x y z was is = inr ((λ e. absurd (omega arith)), is)
  get-set (w ∷ ws) (suc i) (suc j) x y z was is = elim (get-set ws i j x y z was is) as
      (λ o. ((suc j ≡ suc i) × (y ≡ z)) ⊎ ((suc j ≡ suc i → ⊥) × (slice_get ws j ≡ Some z))) [
        | inl h ↦ inl (ap suc h.0, h.1)
        | inr h ↦ inr ((λ e. h.0 (omega arith)), h.1)
      ]

  pub get-more : (xs ys : List A) (i : ℕ) (x : A) → slice_get xs i ≡ Some x → slice_get (xs ++ ys) i ≡ Some x
  get-more [] ys i x is = absurd (cc)
  get-more (z ∷ zs) ys zero x is = is
  get-more (z ∷ zs) ys (suc i) x is = get-more zs ys i x is

  pub get-last : (xs : List A) (y : A) → slice_get (xs ++ y ∷ []) (length xs) ≡ Some y
  get-last [] y = refl
  get-last (z ∷ zs) y = get-last zs y

  pub get-append : (xs : List A) (y : A) (j : ℕ) (z : A) → slice_get (xs ++ y ∷ []) j ≡ Some z
      → ((j ≡ length xs) × (y ≡ z)) ⊎ (slice_get xs j ≡ Some z)
  get-append [] y zero z is = inl (refl, cc)
  get-append [] y (suc j) z is = absurd (cc)
  get-append (w ∷ ws) y zero z is = inr is
  get-append (w ∷ ws) y (suc j) z is = elim (get-append ws y j z is) as
      (λ o. ((suc j ≡ suc (length ws)) × (y ≡ z)) ⊎ (slice_get ws j ≡ Some z)) [
        | inl h ↦ inl (ap suc h.0, h.1)
        | inr h ↦ inr h
      ]

  -- what is written as it was
  pub set-get : (xs : List A) (i : ℕ) (x : A) → slice_get xs i ≡ Some x → slice_set xs i x ≡ xs
  set-get [] i x is = refl
  set-get (z ∷ zs) zero x is = ap (λ w. w ∷ zs) (cc)
  set-get (z ∷ zs) (suc i) x is = ap (λ w. z ∷ w) (set-get zs i x is)

-- an element of a map comes from one of the list
pub from_map : {A B : Type 0} (f : A → B) (xs : List A) (i : ℕ) (y : B) → slice_get (map f xs) i ≡ Some y
    → (x : A) × (slice_get xs i ≡ Some x) × (f x ≡ y)
from_map f [] i y is = absurd (cc)
from_map f (x ∷ xs) zero y is = (x, refl, cc)
from_map f (x ∷ xs) (suc i) y is = from_map f xs i y is

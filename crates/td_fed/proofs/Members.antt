-- One trader of a group, and how queries begin in a group.
use Rattle.std.proofs.Common.{◌≡◌, ℕ, zero, suc, List, [], ◌∷◌, Option, Some, slice_get, slice_set, refl, sym, ap, ◌∙◌}
use Rattle.td_typecode.specs.declared.reference.Ior.{Ior}
use Rattle.td_ops.specs.declared.call.Query.{Query}
use Rattle.td_trader.specs.Worlds.{View}
use Rattle.td_query_walk.specs.Walks.{Start}

-- ---- one of a list

pub get-set_same : {A : Type 0} (xs : List A) (k : ℕ) (x y : A) → slice_get xs k ≡ Some x
    → slice_get (slice_set xs k y) k ≡ Some y
get-set_same [] k x y e = absurd (let bad : ⊥ = cc in bad)
get-set_same (z ∷ xs) zero x y e = refl
get-set_same (z ∷ xs) (suc k) x y e = get-set_same xs k x y e

pub get-set_other : {A : Type 0} (xs : List A) (k j : ℕ) (y : A) → (k ≡ j → ⊥)
    → slice_get (slice_set xs k y) j ≡ slice_get xs j
get-set_other [] k j y h = refl
get-set_other (x ∷ xs) zero zero y h = absurd (h refl)
get-set_other (x ∷ xs) zero (suc j) y h = refl
get-set_other (x ∷ xs) (suc k) zero y h = refl
get-set_other (x ∷ xs) (suc k) (suc j) y h = get-set_other xs k j y (λ e. h (ap suc e))

pub same-view : (o : Option View) (v x : View) → o ≡ Some v → o ≡ Some x → v ≡ x
same-view o v x a b = let same : Some v ≡ Some x = sym a ∙ b in cc

-- ---- how queries begin, and which trader of the group a target is

abbrev pub Beginnings : Type 1
Beginnings = List View → ℕ → Query → Start → List View → Type 0

abbrev pub Insides : Type 0
Insides = List View → Ior → Option ℕ

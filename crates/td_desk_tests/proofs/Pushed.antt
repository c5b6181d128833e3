-- What the tests hand in is small.
use Rattle.std.proofs.Common.{◌≡◌, ℕ, ◌≤◌, List, [], ◌∷◌, ◌++◌, length, subst, sym}
use Rattle.std.specs.List.{AllByRecursion}
use Rattle.td_iter.specs.Heads.{AreSmallIds}

all-pushed : {X : Type 0} (P : X → Type 0) (xs : List X) (x : X) → AllByRecursion P xs → P x
    → AllByRecursion P (xs ++ x ∷ [])
all-pushed P [] x all h = (h, tt)
all-pushed P (y ∷ xs) x all h = (all.0, all-pushed P xs x all.1 h)

pub ids_pushed : (ids new : List (List ℕ)) (id : List ℕ) → new ≡ ids ++ id ∷ [] → AreSmallIds ids
    → length id ≤ 256 → AreSmallIds new
ids_pushed ids new id e all h = subst AreSmallIds (sym e) (all-pushed (λ id. length id ≤ 256) ids id all h)

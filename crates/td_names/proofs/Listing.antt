-- Listings, one binding after the other.
use Rattle.std.proofs.Common.{◌≡◌, ℕ, ◌+◌, List, [], ◌∷◌, ◌++◌, map, take, get_or, slice_get, None, Some, ap, sym}
use Rattle.std.proofs.Common.{◌∙◌, inl, inr}
use Rattle.std.proofs.lemmas.List.{take_more, map-append}
use Rattle.std.proofs.lemmas.Option.{get_or_from_slice_get, slice_get_cases}

pub taken_more : {X Y : Type 0} (f : X → Y) (xs : List X) (i : ℕ) (x : X) → Some x ≡ slice_get xs i
    → map f (take i xs) ++ f x ∷ [] ≡ map f (take (i + 1) xs)
taken_more f xs i x at = elim (slice_get_cases xs i).1 [
  | inl found ↦
      let is : get_or xs i x ≡ x = get_or_from_slice_get xs i x x (sym at) in
      let more = take_more xs i x found.1 in
      sym (ap (map f) more ∙ map-append f (take i xs) (get_or xs i x ∷ []) ∙ ap (λ y. map f (take i xs) ++ f y ∷ []) is)
  | inr past ↦ let bad : Some x ≡ None = at ∙ past.1 in absurd (let no_way : ⊥ = cc in no_way)
]

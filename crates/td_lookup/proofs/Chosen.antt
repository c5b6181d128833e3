-- Offers that are changed one after the other.
use Rattle.std.proofs.Common.{◌≡◌, ℕ, zero, suc, ◌+◌, ◌<◌, List, [], ◌∷◌, ◌++◌, length, map, take, drop, get_or}
use Rattle.std.proofs.Common.{slice_set, refl, sym, ap, ◌∙◌, arith}
use Rattle.std.proofs.lemmas.List.{map-id}
use Rattle.td_lookup.specs.Choosing.{chosen}
use Rattle.td_value.specs.declared.structures.Offer.{Offer}
use Rattle.td_value.specs.declared.unions.SpecifiedProps.TheVariants.{All}

-- the first so many were changed
abbrev pub changed : {X : Type 0} → (X → X) → List X → ℕ → List X
changed f xs i = map f (take i xs) ++ drop i xs

one_more : {X : Type 0} (f : X → X) (xs : List X) (i : ℕ) (d : X) → i < length xs
    → slice_set (changed f xs i) i (f (get_or xs i d)) ≡ changed f xs (suc i)
one_more f [] i d h = absurd (omega (arith, h))
one_more f (x ∷ xs) zero d h = refl
one_more f (x ∷ xs) (suc i) d h = ap (λ t. f x ∷ t) (one_more f xs i d (omega (arith, h)))

next_one : {X : Type 0} (f : X → X) (xs : List X) (i : ℕ) (d : X) → i < length xs
    → get_or (changed f xs i) i d ≡ get_or xs i d
next_one f [] i d h = absurd (omega (arith, h))
next_one f (x ∷ xs) zero d h = refl
next_one f (x ∷ xs) (suc i) d h = next_one f xs i d (omega (arith, h))

pub changed_on : {X : Type 0} (f : X → X) (xs now : List X) (i : ℕ) (d y : X) → now ≡ changed f xs i → i < length xs
    → y ≡ f (get_or now i d) → slice_set now i y ≡ changed f xs (i + 1)
changed_on f xs now i d y is h made =
    let found : get_or now i d ≡ get_or xs i d = ap (λ t. get_or t i d) is ∙ next_one f xs i d h in
    let value : y ≡ f (get_or xs i d) = made ∙ ap f found in
    let next : suc i ≡ i + 1 = omega arith in
    ap (λ t. slice_set t i y) is
    ∙ (ap (λ z. slice_set (changed f xs i) i z) value ∙ (one_more f xs i d h ∙ ap (λ n. changed f xs n) next))

-- where all are desired, the offers stay as they are
pub all_chosen : (offers : List Offer) → offers ≡ map (chosen All) offers
all_chosen offers = sym (map-id offers)

-- Lists of things with numbers that rise.
use Rattle.std.specs.Prelude.{ℕ, ◌<◌, List, [], ◌∷◌, ◌++◌, nat_lt, cond}
use Rattle.td_cdr.specs.Marks.{In}

module _ {X : Type 0} where
  module _ (number : X → ℕ) where
    abbrev pub Rises : List X → Type 0
    Rises [] = Unit {0}
    Rises (x ∷ xs) = ((y : X) → In y xs → number x < number y) × Rises xs

    abbrev pub insert : X → List X → List X
    insert x [] = x ∷ []
    insert x (y ∷ ys) = cond (nat_lt (number x) (number y)) (x ∷ y ∷ ys) (y ∷ insert x ys)

    -- both, by rising number
    abbrev pub merge : List X → List X → List X
    merge [] ys = ys
    merge (x ∷ xs) ys = insert x (merge xs ys)

abbrev pub itself : ℕ → ℕ
itself k = k

-- a place more where there is an entry more
abbrev pub with_place : List ℕ → ℕ → ℕ → List ℕ
with_place own old new = cond (nat_lt old new) (own ++ old ∷ []) own

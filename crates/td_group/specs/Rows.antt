-- Lists side by side.
use Rattle.std.specs.Prelude.{◌≡◌, List, [], ◌∷◌}

-- R holds of what stands at each place, and the three are of one length
module _ {A B C : Type 0} (R : A → B → C → Type 0) where
  abbrev pub Rows : List A → List B → List C → Type 0
  Rows [] [] [] = Unit {0}
  Rows [] [] (z ∷ zs) = ⊥
  Rows [] (y ∷ ys) zs = ⊥
  Rows (x ∷ xs) [] zs = ⊥
  Rows (x ∷ xs) (y ∷ ys) [] = ⊥
  Rows (x ∷ xs) (y ∷ ys) (z ∷ zs) = R x y z × Rows xs ys zs

-- S holds of each of the first list and what stands beside it in the second, which may be longer
module _ {A B : Type 0} (S : A → B → Type 0) where
  abbrev pub Beside : List B → List A → Type 0
  Beside [] ps = Unit {0}
  Beside (t ∷ ts) [] = ⊥
  Beside (t ∷ ts) (p ∷ ps) = S p t × Beside ts ps

-- The elements in front have become what R says beside ts, and the others are as they were.
module _ {A B : Type 0} (R : A → B → A → Type 0) where
  abbrev pub DropsFront : List B → List A → List A → Type 0
  DropsFront [] ps qs = qs ≡ ps
  DropsFront (t ∷ ts) [] qs = ⊥
  DropsFront (t ∷ ts) (p ∷ ps) [] = ⊥
  DropsFront (t ∷ ts) (p ∷ ps) (q ∷ qs) = R p t q × DropsFront ts ps qs

  -- what ts and ps still lead to, they led to at first
  abbrev pub LeadsOn : (ts0 : List B) (ps0 : List A) → List B → List A → Type 0
  LeadsOn ts0 ps0 ts ps = (qs : List A) → DropsFront ts ps qs → DropsFront ts0 ps0 qs

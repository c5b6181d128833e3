-- Lists side by side.
use Rattle.std.specs.Prelude.{List, [], ◌∷◌}

-- R holds of what stands at each place, and the three are of one length
module _ {A B C : Type 0} (R : A → B → C → Type 0) where
  abbrev pub Rows : List A → List B → List C → Type 0
  Rows [] [] [] = Unit {0}
  Rows [] [] (z ∷ zs) = ⊥
  Rows [] (y ∷ ys) zs = ⊥
  Rows (x ∷ xs) [] zs = ⊥
  Rows (x ∷ xs) (y ∷ ys) [] = ⊥
  Rows (x ∷ xs) (y ∷ ys) (z ∷ zs) = R x y z × Rows xs ys zs

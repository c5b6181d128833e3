-- What is put behind bytes.
use Rattle.std.specs.Prelude.{◌≡◌, ℕ, Bool, true, false, List, ◌++◌, Option, None, Some}

-- what there is was put behind the bytes, or there is nothing
abbrev pub PutsText : Option (List ℕ) → (before after : List ℕ) → Bool → Type 0
PutsText None before after put = put ≡ false
PutsText (Some t) before after put = (put ≡ true) × (after ≡ before ++ t)

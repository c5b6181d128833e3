-- Pieces of a text.
use Rattle.std.specs.Prelude.{ℕ, List, ◌++◌, decimal}

-- a label, and a number in decimal right behind it
abbrev pub label_number : (label : List ℕ) → ℕ → List ℕ
label_number label n = label ++ decimal n

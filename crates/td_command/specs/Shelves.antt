-- The texts that a program finds by their names.
use Rattle.std.specs.Prelude.{ℕ, List, Option}
use Rattle.td_out.specs.Texts.{NamedText}

-- the texts with their count of faults, before and after
pub record Shelves : Type 0 where
  pub content : Option (List NamedText)
  pub before : ℕ
  pub after : ℕ

abbrev pub shelves : Option (List NamedText) → ℕ → ℕ → Shelves
shelves content before after = record { content = content; before = before; after = after }

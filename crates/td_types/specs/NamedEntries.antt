-- Entries under the names of their types.
use Rattle.std.specs.Prelude.{◌≡◌, ℕ, nat_eq, Bool, List, Vec}
use Rattle.std.specs.Cmp.Lexicographic.{pointwise}
use Rattle.std.specs.List.{AllByRecursion, IsDistinct}
use Rattle.std.specs.Map.{keys_of}
use Rattle.std.specs.declared.alloc.Global.{Global}
use Rattle.td_types.specs.declared.entry.TypeEntry.{TypeEntry}

-- the keys are the same name
abbrev pub same_key : Vec ℕ Global → Vec ℕ Global → Bool
same_key a b = pointwise nat_eq a.items b.items

-- each entry stands under its type's name, and no two under the same one
pub record AreNamed (entries : List (Vec ℕ Global × TypeEntry)) : Type 0 where
  pub names : AllByRecursion (λ p. p.0.items ≡ p.1.service_type.name) entries
  pub unique : IsDistinct same_key (keys_of entries)

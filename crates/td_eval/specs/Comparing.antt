-- Trading Object Service, "The Constraint Language", on comparisons and on substrings.
use Rattle.std.specs.Prelude.{ℕ, ◌*ℤ◌, Bool, false, ◌||◌, List, [], ◌∷◌, nat_eq, Option, None, Some, option_map}
use Rattle.std.specs.Cmp.Lexicographic.{slice_cmp}
use Rattle.std.specs.List.{starts_with}
use Rattle.std.specs.Ordering.{int_cmp, bool_cmp, nat_cmp, is_eq}
use Rattle.std.specs.declared.cmp.Ordering.{Ordering}
use Rattle.td_eval.specs.declared.simple.Simple.{Simple}
use Rattle.td_eval.specs.declared.simple.Simple.TheVariants.{Number, Text, Truth}

-- how two values of one kind are ordered: a/b and c/d by ad and cb, texts by their bytes, FALSE below TRUE
abbrev pub order_of : Simple → Simple → Option Ordering
order_of (Number a b) (Number c d) = Some (int_cmp (a *ℤ d) (c *ℤ b))
order_of (Text s) (Text t) = Some (slice_cmp nat_cmp s t)
order_of (Truth p) (Truth q) = Some (bool_cmp p q)
order_of x y = None

-- a comparison, by what it asks of the order
abbrev pub comparison : (Ordering → Bool) → Simple → Simple → Option Simple
comparison asked x y = option_map (λ o. Truth (asked o)) (order_of x y)

abbrev pub is_equal : Option Ordering → Bool
is_equal None = false
is_equal (Some o) = is_eq o

abbrev pub equals : Simple → Simple → Bool
equals x y = is_equal (order_of x y)

-- the part begins at some place of the text
abbrev pub occurs_in : List ℕ → List ℕ → Bool
occurs_in part [] = starts_with nat_eq [] part
occurs_in part (b ∷ text) = starts_with nat_eq (b ∷ text) part || occurs_in part text

abbrev pub occurrence : Simple → Simple → Option Simple
occurrence (Text part) (Text text) = Some (Truth (occurs_in part text))
occurrence x y = None

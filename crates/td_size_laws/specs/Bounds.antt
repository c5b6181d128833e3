-- How long offers are wherever they stand in a message: their properties have bounds that hold at each place and in
-- either order.
use Rattle.std.specs.Prelude.{ℕ, ◌+◌, ◌≤◌, List, [], ◌∷◌, length}
use Rattle.td_cdr.specs.declared.order.Order.{Order}
use Rattle.td_cdr.specs.Format.{Piece}
use Rattle.td_typecode.specs.References.{reference}
use Rattle.td_value.specs.Structures.{property}
use Rattle.td_value.specs.declared.structures.Offer.{Offer}
use Rattle.td_value.specs.declared.structures.Property.{Property}

-- at most n bytes, wherever it stands
abbrev pub IsWithin : ℕ → Piece → Type 0
IsWithin n piece = (order : Order) (place : ℕ) → length (piece order place) ≤ n

-- each property has a bound, and the bounds together are at most n
abbrev pub Fit : List Property → ℕ → Type 0
Fit [] n = Unit {0}
Fit (p ∷ ps) n = (k : ℕ) × (m : ℕ) × IsWithin k (property.format.writes p) × Fit ps m × (k + m ≤ n)

-- The reference and the properties have bounds of together at most 12 MiB but 8 bytes, so that there is room for the
-- number of properties.
pub record IsBounded (o : Offer) : Type 0 where
  pub reference_bound : ℕ
  pub properties_bound : ℕ
  pub reference_within : IsWithin reference_bound (reference.format.writes o.reference)
  pub properties_fit : Fit o.properties properties_bound
  pub together : reference_bound + properties_bound ≤ 12582904

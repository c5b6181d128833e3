-- Offers that the tests hand in.
use Rattle.std.specs.Prelude.{ℕ, List, []}
use Rattle.td_value.specs.declared.structures.Offer.{Offer}

-- without properties, of a reference without profiles that has this id
abbrev pub bare_offer : (id : List ℕ) → Offer
bare_offer id = record { reference = record { id = id; profiles = [] }; properties = [] }

-- The numbers of a store's offers: each was given.
use Rattle.std.specs.Prelude.{ℕ, ◌<◌, ◌≤◌}
use Rattle.std.specs.List.{AllByRecursion}
use Rattle.td_store.specs.declared.record.OfferRecord.{OfferRecord}
use Rattle.td_register.specs.Stores.{Store}

abbrev pub IsNumbered : (last : ℕ) → OfferRecord → Type 0
IsNumbered last o = (0 < o.number) × (o.number ≤ last)

-- each offer's number is from 1 up to the last one given
abbrev pub AreNumbered : Store → Type 0
AreNumbered s = AllByRecursion (IsNumbered s.last_offer) s.offers

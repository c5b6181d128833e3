-- An offer at its place.
use Rattle.std.specs.Prelude.{ℕ, List, Option, None, Some}
use Rattle.td_value.specs.declared.structures.Property.{Property}
use Rattle.td_store.specs.Slabs.{Slab, value_at, with_value}
use Rattle.td_store.specs.declared.record.OfferRecord.{OfferRecord}

-- the slab, with other properties of the offer at a place, if there is one
abbrev pub changed_at : Slab OfferRecord → ℕ → List Property → Option OfferRecord → Slab OfferRecord
changed_at slab place properties None = slab
changed_at slab place properties (Some o) = with_value slab place
    (record o { properties = properties })

abbrev pub with_changed : Slab OfferRecord → ℕ → List Property → Slab OfferRecord
with_changed slab place properties = changed_at slab place properties (value_at slab.slots place)

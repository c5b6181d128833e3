-- What holds of the offers that a query searches (OMG's Trading Object Service, "Lookup Interface", query).
use Rattle.std.specs.Prelude.{◌≡◌, ℕ, false, IsTrue, List, None}
use Rattle.td_types.specs.Conforming.{conforms}
use Rattle.td_types.specs.declared.entry.ServiceType.{ServiceType}
use Rattle.td_store.specs.Candidates.{belongs, has_dynamic}
use Rattle.td_store.specs.declared.record.OfferRecord.{OfferRecord}

-- the offer belongs to a type, and this conforms to the asked one
pub record HasConformingType (types : List ServiceType) (asked : List ℕ)
    (o : OfferRecord) : Type 0 where
  pub present : IsTrue (belongs types o)
  pub conforming : IsTrue (conforms types o.service_type asked)

-- an ordinary offer without dynamic properties
pub record IsStaticOffer (o : OfferRecord) : Type 0 where
  pub ordinary : o.proxy ≡ None
  pub fixed : has_dynamic o.properties ≡ false

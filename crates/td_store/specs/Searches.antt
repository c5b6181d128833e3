-- How the offers of some types are found over the chains of these types.
use Rattle.std.specs.Prelude.{◌≡◌, ℕ, nat_eq, Bool, false, if◌then◌else◌, List, [], ◌∷◌, filter, Option, None, Some}
use Rattle.std.specs.BTreeMap.{BTreeMap, get}
use Rattle.std.specs.List.{list_any}
use Rattle.std.specs.Ordering.{nat_cmp}
use Rattle.td_types.specs.Conforming.{subtypes}
use Rattle.td_types.specs.Repository.{incarnation_of}
use Rattle.td_types.specs.declared.entry.ServiceType.{ServiceType}
use Rattle.td_store.specs.OfferLists.{NumbersRise, is_of}
use Rattle.td_store.specs.Slabs.{Slab}
use Rattle.td_store.specs.Walks.{values_on, places_on}
use Rattle.td_store.specs.declared.record.OfferRecord.{OfferRecord}

-- no number stands twice
abbrev pub AreDistinct : List ℕ → Type 0
AreDistinct [] = Unit {0}
AreDistinct (x ∷ xs) = (list_any (nat_eq x) xs ≡ false) × AreDistinct xs

-- the one or none
abbrev pub only : Option ℕ → List ℕ
only None = []
only (Some i) = i ∷ []

-- the incarnations of the types whose offers are looked at
abbrev pub searched_types : List ServiceType → (exact : Bool) → (asked : List ℕ) → List ℕ
searched_types types exact asked = if exact then only (incarnation_of types asked)
    else subtypes types asked

-- these are the offers by rising number, and those of each incarnation stand on its chain
pub record AreChained (slab : Slab OfferRecord) (chains : BTreeMap ℕ ℕ)
    (offers : List OfferRecord) : Type 0 where
  pub rise : NumbersRise offers
  pub each : (i : ℕ) → values_on slab.slots (places_on slab.chains (get nat_cmp chains i))
      ≡ filter (is_of i) offers

-- Where offers stand: an offer's number leads to its place, and its place is on the chain of its type's incarnation
-- and on that of its kind.
use Rattle.std.specs.Prelude.{◌≡◌, ℕ, ◌<◌, ◌≤◌, Bool, true, false, List, [], filter, filter_map, length, Option}
use Rattle.std.specs.Prelude.{Some, None}
use Rattle.std.specs.List.{AllByRecursion}
use Rattle.std.specs.List.Sorted.{IsStrictlySortedBy}
use Rattle.std.specs.Map.{keys_of, lookup}
use Rattle.std.specs.BTreeMap.{BTreeMap, is_at, get}
use Rattle.std.specs.Option.{option_map}
use Rattle.std.specs.Ordering.{nat_cmp}
use Rattle.td_store.specs.OfferLists.{is_of, is_of_kind}
use Rattle.td_store.specs.Slabs.{Slab, value_at, chain_of, held}
use Rattle.td_store.specs.declared.record.OfferRecord.{OfferRecord}

-- the offers at places
abbrev pub offers_on : (ℕ → Option OfferRecord) → List ℕ → List OfferRecord
offers_on value places = filter_map value places

-- the offers to whose places numbers lead
abbrev pub offers_at : (ℕ → Option OfferRecord) → List (ℕ × ℕ) → List OfferRecord
offers_at value numbers = filter_map (λ e. value e.1) numbers

-- the places on a chain, if there is one
abbrev pub places_of : (ℕ → List ℕ) → Option ℕ → List ℕ
places_of chain None = []
places_of chain (Some c) = chain c

-- the chain of the ordinary offers, and that of the proxy offers
abbrev pub kind_chain : (proxies : Bool) → ℕ
kind_chain false = 0
kind_chain true = 1

abbrev pub number_in : Option OfferRecord → Option ℕ
number_in offer = option_map (λ o. o.number) offer

-- an offer of this number is at this place
abbrev pub IsHome : (ℕ → Option OfferRecord) → ℕ × ℕ → Type 0
IsHome value e = number_in (value e.1) ≡ Some e.0

-- Each number leads to the place of the offer of that number, and each offer's number to its place. The chains have
-- the offers of their incarnation or kind, by rising number.
pub record Homes (value : ℕ → Option OfferRecord) (chain : ℕ → List ℕ) (numbers : List (ℕ × ℕ))
    (chains : ℕ → Option ℕ) : Type 0 where
  pub numbered : AllByRecursion (IsHome value) numbers
  pub sorted : IsStrictlySortedBy nat_cmp (keys_of numbers)
  pub homed : (p : ℕ) (o : OfferRecord) → value p ≡ Some o
      → lookup (is_at (nat_cmp o.number)) numbers ≡ Some p
  pub of_types : (i : ℕ) → offers_on value (places_of chain (chains i))
      ≡ filter (is_of i) (offers_at value numbers)
  pub of_kinds : (proxies : Bool)
      → offers_on value (chain (kind_chain proxies))
      ≡ filter (is_of_kind proxies) (offers_at value numbers)

-- the chains of the kinds are there, and each incarnation's is another one
pub record AreChains (chains : ℕ → Option ℕ) (count : ℕ) : Type 0 where
  pub kinds : 2 ≤ count
  pub within : (i c : ℕ) → chains i ≡ Some c → (2 ≤ c) × (c < count)
  pub apart : (i j c : ℕ) → chains i ≡ Some c → chains j ≡ Some c → i ≡ j

abbrev pub offers_in : Slab OfferRecord → List (ℕ × ℕ) → List OfferRecord
offers_in slab numbers = offers_at (value_at slab.slots) numbers

pub record HoldsOffers (slab : Slab OfferRecord) (numbers : List (ℕ × ℕ)) (chains : BTreeMap ℕ ℕ)
    (ordinary proxies : ℕ) : Type 0 where
  pub homes : Homes (value_at slab.slots) (chain_of slab.chains) numbers (get nat_cmp chains)
  pub chains_are : AreChains (get nat_cmp chains) (length slab.chains)
  pub held_are : held slab.slots ≡ length numbers
  pub ordinary_is : ordinary ≡ kind_chain false
  pub proxies_is : proxies ≡ kind_chain true

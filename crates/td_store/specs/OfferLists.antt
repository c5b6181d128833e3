-- Offers as a list by rising number.
use Rattle.std.specs.Prelude.{ℕ, ◌<◌, ◌≤◌, Bool, true, false, not, ◌==◌, is_some, if◌then◌else◌, List, find}
use Rattle.std.specs.Prelude.{filter, map, Option, Result, Ok, Err}
use Rattle.std.specs.List.Sorted.{IsStrictlySortedBy}
use Rattle.std.specs.Ordering.{nat_cmp}
use Rattle.td_value.specs.declared.structures.Property.{Property}
use Rattle.td_store.specs.declared.record.OfferRecord.{OfferRecord}
use Rattle.td_store.specs.declared.fault.StoreFault.{StoreFault}
use Rattle.td_store.specs.declared.fault.StoreFault.TheVariants.{Full, Memory}

abbrev pub is_numbered : ℕ → OfferRecord → Bool
is_numbered number o = o.number == number

-- the offer of a number
abbrev pub offer_of : List OfferRecord → ℕ → Option OfferRecord
offer_of offers number = find (is_numbered number) offers

-- the offers of other numbers
abbrev pub without_offer : ℕ → List OfferRecord → List OfferRecord
without_offer number offers = filter (λ o. not (is_numbered number o)) offers

-- the offers, with these properties of that number's
abbrev pub changed_offer : ℕ → List Property → OfferRecord → OfferRecord
changed_offer number properties o = if is_numbered number o then record o
    { properties = properties } else o

abbrev pub with_properties : ℕ → List Property → List OfferRecord → List OfferRecord
with_properties number properties offers = map (changed_offer number properties) offers

-- each number is below those after it
abbrev pub NumbersRise : List OfferRecord → Type 0
NumbersRise offers = IsStrictlySortedBy nat_cmp (map (λ o. o.number) offers)

-- the offer's type had this incarnation
abbrev pub is_of : ℕ → OfferRecord → Bool
is_of incarnation o = o.incarnation == incarnation

-- an ordinary offer or a proxy offer
abbrev pub same_kind : (proxies proxy : Bool) → Bool
same_kind true proxy = proxy
same_kind false proxy = not proxy

abbrev pub is_of_kind : (proxies : Bool) → OfferRecord → Bool
is_of_kind proxies o = same_kind proxies (is_some o.proxy)

abbrev pub most_offers : ℕ
most_offers = 1000000

-- refused as full exactly where there are as many as may be
abbrev pub IsLimited : {X : Type 0} → (most count : ℕ) → Result X StoreFault → Type 0
IsLimited most count (Ok x) = count < most
IsLimited most count (Err Full) = most ≤ count
IsLimited most count (Err Memory) = count < most

-- The values at places.
use Rattle.std.specs.Prelude.{ℕ, List, Option, filter_map}
use Rattle.std.specs.List.{flat_map}
use Rattle.std.specs.BTreeMap.{BTreeMap, get}
use Rattle.std.specs.Ordering.{nat_cmp}
use Rattle.td_store.specs.Homes.{places_of}
use Rattle.td_store.specs.Slabs.{value_at, chain_of}

abbrev pub values_on : {T : Type 0} → List (Option T) → List ℕ → List T
values_on slots places = filter_map (value_at slots) places

-- the places on a chain, if there is one
abbrev pub places_on : List (List ℕ) → Option ℕ → List ℕ
places_on chains chain = places_of (chain_of chains) chain

-- the values on the chains of these incarnations, chain by chain
abbrev pub values_of : {T : Type 0} → List (Option T) → List (List ℕ) → BTreeMap ℕ ℕ → List ℕ
    → List T
values_of slots chains at incarnations =
    flat_map (λ i. values_on slots (places_on chains (get nat_cmp at i))) incarnations

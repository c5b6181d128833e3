-- What a trader keeps of what queries were served with, until it accepts a change. What a query is served with
-- (Serving) doesn't depend on it. (OMG's Trading Object Service, "Lookup Interface", query, and "Policies".)
use Rattle.std.specs.Prelude.{◌≡◌, ℕ, List, None, Some, IfSome}
use Rattle.td_policy.specs.Stated.{nothing}
use Rattle.td_policy.specs.declared.stated.Stated.{Stated}
use Rattle.td_store.specs.Candidates.{candidates, is_exact, uses}
use Rattle.td_store.specs.declared.record.OfferRecord.{OfferRecord}
use Rattle.td_register.specs.Stores.{Store}
use Rattle.td_trader.specs.declared.cache.Cache.{Cache}
use Rattle.td_trader.specs.declared.cache.CachedSearch.{CachedSearch}
use Rattle.td_trader.specs.declared.cache.Uses.{Uses}

-- ---- the offers that a query searches

-- what the policies say of which offers are used: exact_type_match, and the three use policies
abbrev pub uses_of : Stated → Uses
uses_of s = record {
  exact = is_exact s;
  proxies = uses s.use_proxy;
  dynamic = uses s.use_dynamic;
  modifiable = uses s.use_modifiable;
}

-- policies that say this, and nothing else
abbrev pub stated_uses : Uses → Stated
stated_uses u = record nothing {
  exact = Some u.exact;
  use_proxy = Some u.proxies;
  use_dynamic = Some u.dynamic;
  use_modifiable = Some u.modifiable;
}

-- the first so many offers that queries for a type search whose policies say this
abbrev pub searched_by : Store → Uses → (service_type : List ℕ) → (count : ℕ) → List OfferRecord
searched_by s u service_type count =
    candidates s.types.types s.attributes (stated_uses u) service_type count s.offers

-- ---- what is kept

-- they are kept with what decides which they are
abbrev pub IsSearchAt : Store → CachedSearch → Type 0
IsSearchAt s c = c.offers ≡ searched_by s c.uses c.service_type c.count

-- what is kept is what the store has
pub record IsCacheOf (s : Store) (c : Cache) : Type 0 where
  pub attributes : IfSome c.attributes (λ a. a ≡ s.attributes)
  pub links : IfSome c.links (λ ls. ls ≡ s.links)
  pub search : IfSome c.search (IsSearchAt s)

-- a search that is kept is one for this type by these policies, of so many offers
pub record IsSearchFor (c : CachedSearch) (u : Uses) (service_type : List ℕ)
    (count : ℕ) : Type 0 where
  pub same_uses : c.uses ≡ u
  pub same_type : c.service_type ≡ service_type
  pub same_count : c.count ≡ count

-- nothing is kept
abbrev pub nothing_cached : Cache
nothing_cached = record { attributes = None; links = None; search = None }

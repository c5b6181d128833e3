-- What is kept of a search serves each query that searches the same offers.
use Rattle.std.proofs.Common.{◌≡◌, ℕ, List, sym, ap, subst, ◌∙◌}
use Rattle.td_policy.specs.declared.stated.Stated.{Stated}
use Rattle.td_store.specs.Candidates.{candidates}
use Rattle.td_store.specs.declared.record.OfferRecord.{OfferRecord}
use Rattle.td_register.specs.Stores.{Store}
use Rattle.td_trader.specs.Caching.{IsCacheOf, IsSearchAt, IsSearchFor, nothing_cached, searched_by, uses_of}
use Rattle.td_trader.specs.declared.cache.Cache.{Cache}
use Rattle.td_trader.specs.declared.cache.CachedSearch.{CachedSearch}
use Rattle.td_trader.specs.declared.cache.Uses.{Uses}

-- of a query's policies only those on the use of offers decide which offers it searches
pub by_uses : (s : Store) (stated : Stated) (service_type : List ℕ) (count : ℕ) (found : List OfferRecord)
    → found ≡ candidates s.types.types s.attributes stated service_type count s.offers
    → found ≡ searched_by s (uses_of stated) service_type count
by_uses s stated service_type count found e = e

pub from_uses : (s : Store) (stated : Stated) (service_type : List ℕ) (count : ℕ) (found : List OfferRecord)
    → found ≡ searched_by s (uses_of stated) service_type count
    → found ≡ candidates s.types.types s.attributes stated service_type count s.offers
from_uses s stated service_type count found e = e

pub searched_before : (s : Store) (c : CachedSearch) (u : Uses) (service_type : List ℕ) (count : ℕ)
    (found : List OfferRecord) → IsSearchFor c u service_type count → IsSearchAt s c → found ≡ c.offers
    → found ≡ searched_by s u service_type count
searched_before s c u service_type count found same at e =
    e ∙ (at
    ∙ (ap (λ (v : Uses). searched_by s v c.service_type c.count) same.same_uses
    ∙ (ap (λ (name : List ℕ). searched_by s u name c.count) same.same_type
    ∙ ap (λ (n : ℕ). searched_by s u service_type n) same.same_count)))

-- an empty cache is one of every store
pub nothing_kept : (s : Store) (c : Cache) → c ≡ nothing_cached → IsCacheOf s c
nothing_kept s c e = subst (IsCacheOf s) (sym e) (record { attributes = tt; links = tt; search = tt })

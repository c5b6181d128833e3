-- How long a log is that was made.
use Rattle.std.specs.Prelude.{◌≡◌, ℕ, ◌*◌, ◌^◌, ◌<◌, ◌≤◌, List, length, None}
use Rattle.std.specs.List.{AllByRecursion}
use Rattle.td_audit.specs.Making.{IsLog}
use Rattle.td_iter.specs.Heads.{IsSmallReference}
use Rattle.td_objects.specs.References.{IsAddress}
use Rattle.td_register.specs.Stores.{Store}
use Rattle.td_store.specs.declared.record.OfferRecord.{OfferRecord}
use Rattle.td_trader.specs.PlainTraders.{PlainTrader, store_of}
use Rattle.td_walk.specs.Resolving.{dynamic_named}
use Rattle.td_walk.specs.declared.trace.Address.{Address}

-- an ordinary offer without dynamic properties
pub record IsStaticOffer (o : OfferRecord) : Type 0 where
  pub ordinary : o.proxy ≡ None
  pub static : (name : List ℕ) → dynamic_named o.properties name ≡ None

abbrev pub ArePlain : List OfferRecord → Type 0
ArePlain os = AllByRecursion IsStaticOffer os

-- Such offers alone, two links at most, and a query that states no hop count goes over five links at most.
pub record IsSparse (s : Store) : Type 0 where
  pub offers : ArePlain s.offers
  pub links : length s.links ≤ 2
  pub hops : s.attributes.def_hop_count ≤ 5

abbrev pub SparseTrader : PlainTrader → Type 0
SparseTrader t = IsSparse (store_of t)

-- The log of such traders has 128 lines at most for each of them: the Ask, its reply, and the events between.
abbrev pub MadeLogsAreShort : Type 0
MadeLogsAreShort =
    (traders : List PlainTrader) (home : Address) (log : List ℕ)
    → AllByRecursion SparseTrader traders
    → (is : IsLog traders home log) → length is.lines ≤ 128 * length traders

-- The log of at most 64 such traders has fewer than 2^32 bytes: a reply fits in a message, and the other lines are few
-- and short.
abbrev pub MadeLogsAreSmall : Type 0
MadeLogsAreSmall =
    (traders : List PlainTrader) (home : Address) (log : List ℕ)
    → AllByRecursion SparseTrader traders → length traders ≤ 64
    → IsLog traders home log → length log < 2 ^ 32

-- the references of its offers have at most 4,096 bytes
abbrev pub HasSmallReferences : PlainTrader → Type 0
HasSmallReferences t =
    AllByRecursion (λ (o : OfferRecord). IsSmallReference o.reference) (store_of t).offers

-- Where they are so small, the log has at most 64 MiB: a query of the log asks for a hundred offers, and for no
-- properties.
abbrev pub MadeLogsFit : Type 0
MadeLogsFit =
    (traders : List PlainTrader) (home : Address) (log : List ℕ) → IsAddress home
    → AllByRecursion SparseTrader traders → AllByRecursion HasSmallReferences traders
    → length traders ≤ 64 → IsLog traders home log → length log ≤ 2 ^ 26

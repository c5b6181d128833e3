-- Traders all of whose values can be written, as what they tell goes into replies.
use Rattle.std.specs.Prelude.{◌≡◌}
use Rattle.std.specs.List.{AllByRecursion}
use Rattle.td_ops.specs.Answers.{AdmitsOutcome}
use Rattle.td_ops.specs.Called.{change_operation, look_operation}
use Rattle.td_ops.specs.declared.call.Change.{Change}
use Rattle.td_ops.specs.declared.call.Look.{Look}
use Rattle.td_ops.specs.declared.call.Query.{Query}
use Rattle.td_ops.specs.declared.operation.Operation.TheVariants as operation
use Rattle.td_ops.specs.declared.outcome.Outcome.{Outcome}
use Rattle.td_ops.specs.Parameters.{query}
use Rattle.td_store.specs.Stores.{AdmitsAttributes, AdmitsLink, IsOffer}
use Rattle.td_store.specs.declared.local.Local.{Local}
use Rattle.td_changes.specs.Applying.{seek}
use Rattle.td_trader_laws.specs.Writable.{AdmitsLook, IsWritableStore}
use Rattle.td_trader.specs.Admitted.{AdmitsChange, AreAdmitted}
use Rattle.td_trader.specs.PlainTraders.{PlainTrader, after_begin, after_change, begin_at, outcome_of, store_of}
use Rattle.td_trader.specs.declared.begin.Begin.TheVariants.{Refused, Search}

-- the opening store can be written, and so can the values of each change that was accepted since
pub record IsWritableTrader (t : PlainTrader) : Type 0 where
  pub opening : IsWritableStore t.opening
  pub changes : AreAdmitted t.history

-- a change is answered with an outcome of its operation that can be written, and leaves such a trader
pub record AnswersWritably (t : PlainTrader) (c : Change) : Type 0 where
  pub outcome : AdmitsOutcome (change_operation c) (outcome_of t c)
  pub after : IsWritableTrader (after_change t c)

abbrev pub TradersStoresAreWritable : Type 0
TradersStoresAreWritable = (t : PlainTrader) → IsWritableTrader t → IsWritableStore (store_of t)

abbrev pub TradersChangeWritably : Type 0
TradersChangeWritably = (t : PlainTrader) (c : Change) → IsWritableTrader t → AdmitsChange c
    → AnswersWritably t c

abbrev pub TradersLookWritably : Type 0
TradersLookWritably =
    (t : PlainTrader) (l : Look) → IsWritableTrader t → AdmitsLook l
    → AdmitsOutcome (look_operation l) (seek (store_of t) l).0

-- the beginning of a query leaves such a trader
abbrev pub TradersBeginWritably : Type 0
TradersBeginWritably =
    (t : PlainTrader) (q : Query) → IsWritableTrader t
    → IsWritableTrader (after_begin t q (begin_at t q))

-- a query that is refused is told an outcome that can be written, whatever the trader
abbrev pub TradersRefuseWritably : Type 0
TradersRefuseWritably =
    (t : PlainTrader) (q : Query) (o : Outcome) → query.format.admits q → begin_at t q ≡ Refused o
    → AdmitsOutcome operation.Query o

-- the offers, the links and the attributes that a search has can be written
pub record IsWritableSearch (l : Local) : Type 0 where
  pub candidates : AllByRecursion IsOffer l.candidates
  pub links : AllByRecursion AdmitsLink l.links
  pub attributes : AdmitsAttributes l.attributes

abbrev pub TradersSearchWritably : Type 0
TradersSearchWritably =
    (t : PlainTrader) (q : Query) (l : Local) → IsWritableTrader t → begin_at t q ≡ Search l
    → IsWritableSearch l

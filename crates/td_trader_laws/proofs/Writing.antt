-- Traders all of whose values can be written.
use Rattle.std.proofs.Common.{List, [], ◌∷◌, ◌++◌, length}
use Rattle.td_ops.specs.declared.call.Change.{Change}
use Rattle.td_ops.specs.declared.outcome.Outcome.{Outcome}
use Rattle.td_ops.specs.declared.outcome.Outcome.TheVariants.{Done, User, System}
use Rattle.td_trader.specs.Admitted.{AdmitsChange, AreAdmitted}
use Rattle.td_trader_laws.proofs.AdmittingLooks.{looks}
use Rattle.td_trader_laws.proofs.Written.{after-written, counted-changes}
use Rattle.td_register.specs.declared.history.Accepted.{Accepted}
use Rattle.td_register.specs.Entries.{entry}
use Rattle.td_trader.specs.PlainTraders.{PlainTrader, after_outcome, outcome_of, store_of}
use Rattle.td_trader_laws.specs.WritableTraders.{IsWritableTrader, TradersBeginWritably, TradersChangeWritably}
use Rattle.td_trader_laws.specs.WritableTraders.{TradersLookWritably, TradersStoresAreWritable}

pub push : (history : List Accepted) (e : Accepted) → AreAdmitted history → AdmitsChange e.change
    → AreAdmitted (history ++ e ∷ [])
push [] e h k = (k, tt)
push (x ∷ history) e h k = (h.0, push history e h.1 k)

kept-through : (t : PlainTrader) (c : Change) (o : Outcome) → IsWritableTrader t → AdmitsChange c
    → IsWritableTrader (after_outcome t c o)
kept-through t c (Done content) w h = record { opening = w.opening; changes = push t.history (entry c content) w.changes h }
kept-through t c (User e) w h = w
kept-through t c (System kind minor completion) w h = w

pub stores : TradersStoresAreWritable
stores t w = after-written t.opening t.history w.opening w.changes

pub changes : TradersChangeWritably
changes t c w h = record {
  outcome = (counted-changes t.bounds (length t.history) (store_of t) c (stores t w) h).outcome;
  after = kept-through t c (outcome_of t c) w h;
}

pub looked : TradersLookWritably
looked t l w h = looks (store_of t) l (stores t w) h

pub begun : TradersBeginWritably
begun t q w = record { opening = w.opening; changes = w.changes }

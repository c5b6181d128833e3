-- Groups of traders all of whose values can be written, as they are seen.
use Rattle.std.specs.Prelude.{ℕ, List}
use Rattle.std.specs.List.{AllByRecursion}
use Rattle.td_cdr.specs.Marks.{Marks}
use Rattle.td_ops.specs.Answers.{AdmitsOutcome}
use Rattle.td_ops.specs.Called.{change_operation, look_operation}
use Rattle.td_ops.specs.Parameters.{query}
use Rattle.td_ops.specs.declared.call.Change.{Change}
use Rattle.td_ops.specs.declared.call.Look.{Look}
use Rattle.td_ops.specs.declared.call.Query.{Query}
use Rattle.td_ops.specs.declared.operation.Operation.TheVariants as operation
use Rattle.td_ops.specs.declared.outcome.Outcome.{Outcome}
use Rattle.td_trader_laws.specs.Writable.{AdmitsLook, IsWritableStore}
use Rattle.td_trader.specs.Admitted.{AdmitsChange, AreAdmitted}
use Rattle.td_register.specs.declared.history.Accepted.{Accepted}
use Rattle.td_trader.specs.Worlds.{BeginsQuery, ChangesTrader, LooksAtTrader, View, Watches}
use Rattle.td_trader.specs.declared.begin.Begin.{Begin}
use Rattle.td_trader.specs.declared.begin.Begin.TheVariants.{Refused, Repeat, Search, Path}

-- the opening store can be written, and so can the values of each change that is seen
pub record IsWritableView (v : View) : Type 0 where
  pub opening : IsWritableStore v.opening
  pub changes : AreAdmitted v.history

abbrev pub IsWritableWorld : List View → Type 0
IsWritableWorld w = AllByRecursion IsWritableView w

-- the values of the changes that others make can be written
abbrev pub OthersAreAdmitted : (List Accepted → Type 0) → Type 0
OthersAreAdmitted others = (between : List Accepted) → others between → AreAdmitted between

-- what is told where a query is refused
abbrev pub AdmitsRefused : Begin → Type 0
AdmitsRefused (Refused o) = AdmitsOutcome operation.Query o
AdmitsRefused (Repeat number) = Unit {0}
AdmitsRefused (Search l) = Unit {0}
AdmitsRefused (Path l) = Unit {0}

-- ---- what each call leaves is such a group again, and what it answers can be written, where the changes of others can
-- be

module _ (others : List Accepted → Type 0) (later : Marks → Marks → Type 0) where
  abbrev pub WorldsChangeWritably : Type 0
  WorldsChangeWritably =
      (w u : List View) (k : ℕ) (c : Change) (o : Outcome) → IsWritableWorld w
      → AdmitsChange c → ChangesTrader others later w k c o u
      → AdmitsOutcome (change_operation c) o × IsWritableWorld u

  abbrev pub WorldsLookWritably : Type 0
  WorldsLookWritably =
      (w u : List View) (k : ℕ) (l : Look) (a : Outcome × ℕ) → IsWritableWorld w
      → AdmitsLook l → LooksAtTrader others later w k l a u → AdmitsOutcome (look_operation l) a.0
      × IsWritableWorld u

  abbrev pub WorldsBeginWritably : Type 0
  WorldsBeginWritably =
      (w u : List View) (k : ℕ) (q : Query) (b : Begin) → IsWritableWorld w
      → query.format.admits q → BeginsQuery others later w k q b u → AdmitsRefused b
      × IsWritableWorld u

  abbrev pub WorldsWatchWritably : Type 0
  WorldsWatchWritably =
      (w u : List View) (k : ℕ) → IsWritableWorld w → Watches others later w k u
      → IsWritableWorld u

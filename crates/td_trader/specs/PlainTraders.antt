-- A trader as a plain value: its opening store with what was accepted since.
use Rattle.std.specs.Prelude.{◌≡◌, ℕ, ◌≤◌, ◌^◌, Bool, false, List, [], length}
use Rattle.td_cdr.specs.Marks.{Marks}
use Rattle.td_marks.specs.Keeping.{no_marks}
use Rattle.td_ops.specs.Outcomes.{short_length}
use Rattle.td_ops.specs.declared.call.Change.{Change}
use Rattle.td_ops.specs.declared.call.Query.{Query}
use Rattle.td_ops.specs.declared.outcome.Outcome.{Outcome}
use Rattle.td_ops.specs.declared.outcome.Outcome.TheVariants.{Done, User, System}
use Rattle.td_trader.specs.Beginning.{begin_of, after_begin as marks_after}
use Rattle.td_changes.specs.Histories.{Legal, after_all, add_accepted}
use Rattle.td_changes.specs.Laws.{applied_after}
use Rattle.td_changes.specs.Numbering.{AreNumbered}
use Rattle.td_register.specs.Registers.{last_number}
use Rattle.td_register.specs.Stores.{Store}
use Rattle.td_trader.specs.declared.begin.Begin.{Begin}
use Rattle.td_changes.specs.declared.bounds.Bounds.{Bounds}
use Rattle.td_register.specs.declared.history.Accepted.{Accepted}

-- the name, the opening store, the bounds, the changes accepted since, the marks, and whether there is room for one
-- more entry of the history
pub record PlainTrader : Type 0 where
  pub name : List ℕ
  pub opening : Store
  pub bounds : Bounds
  pub history : List Accepted
  pub marks : Marks
  pub reserved : Bool

abbrev pub new_trader : (name : List ℕ) → (opening : Store) → Bounds → PlainTrader
new_trader name opening bounds = record {
  name = name;
  opening = opening;
  bounds = bounds;
  history = [];
  marks = no_marks bounds.ring;
  reserved = false;
}

-- the bounds that a trader may have
pub record AreBounds (b : Bounds) : Type 0 where
  pub remembers : 1 ≤ b.ring
  pub ring : b.ring ≤ 4096
  pub begins : b.begins ≤ 2 ^ 40

-- the store behind the whole history
abbrev pub store_of : PlainTrader → Store
store_of t = after_all t.opening t.history

-- what a change comes to
abbrev pub outcome_of : PlainTrader → Change → Outcome
outcome_of t c = (applied_after t.bounds t.opening t.history c).outcome

-- The trader behind a change with this outcome: an accepted one is the last entry then, in the room that was reserved.
abbrev pub after_outcome : PlainTrader → Change → Outcome → PlainTrader
after_outcome t c (Done content) = record t {
  history = add_accepted t.history c (Done content);
  reserved = false;
}
after_outcome t c (User e) = t
after_outcome t c (System kind minor completion) = t

abbrev pub after_change : PlainTrader → Change → PlainTrader
after_change t c = after_outcome t c (outcome_of t c)

-- how a query begins
abbrev pub begin_at : PlainTrader → Query → Begin
begin_at t q = begin_of t.bounds (store_of t) (length t.history) t.marks q

-- the trader behind a query that began so
abbrev pub after_begin : PlainTrader → Query → Begin → PlainTrader
after_begin t q b = record t { marks = marks_after (store_of t) t.marks q b }

-- ---- replies that fit in few bytes

-- a stem is short, and the numbers of offers are ulongs
pub record HasShortReplies (s : Store) : Type 0 where
  pub stem : length s.attributes.request_id_stem ≤ short_length
  pub last_offer : s.last_offer ≤ last_number

-- ---- what is kept

-- The store is the one behind the history, which is legal, and the numbers of its offers were given.
pub record IsValidTrader (bounds : Bounds) (opening store : Store) (history : List Accepted) :
    Type 0 where
  pub behind : store ≡ after_all opening history
  pub legal : Legal bounds opening history
  pub numbered : AreNumbered store

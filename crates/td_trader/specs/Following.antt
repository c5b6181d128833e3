-- What a trader may become, and what the acts of its holders make of it.
use Rattle.std.specs.Prelude.{◌≡◌, ℕ, ◌+◌, ◌≤◌, ◌⊎◌, List, ◌++◌, length, Result, Ok, Err}
use Rattle.td_cdr.specs.Marks.{Marks, Later, IsMarkedFrom as MarkFollows}
use Rattle.td_cdr.specs.declared.memory.Memory.{Memory as OutOfMemory}
use Rattle.td_ops.specs.declared.call.Change.{Change}
use Rattle.td_ops.specs.declared.call.Look.{Look}
use Rattle.td_ops.specs.declared.call.Query.{Query}
use Rattle.td_ops.specs.declared.outcome.Outcome.{Outcome}
use Rattle.td_changes.specs.Applying.{seek}
use Rattle.td_changes.specs.Histories.{LegalFrom}
use Rattle.td_trader.specs.Admitted.{AreAdmitted}
use Rattle.td_trader.specs.PlainTraders.{PlainTrader, after_begin, after_change, begin_at, outcome_of}
use Rattle.td_trader.specs.PlainTraders.{store_of}
use Rattle.td_trader.specs.declared.begin.Begin.{Begin}
use Rattle.td_register.specs.declared.history.Accepted.{Accepted}

-- The second may be what the first has become: a legal history begins with the first's, and the marks are later.
pub record Follows (t u : PlainTrader) : Type 0 where
  pub name : u.name ≡ t.name
  pub opening : u.opening ≡ t.opening
  pub bounds : u.bounds ≡ t.bounds
  pub more : List Accepted
  pub history : u.history ≡ t.history ++ more
  pub legal : LegalFrom t.bounds (length t.history) (store_of t) more
  pub marks : Later t.marks u.marks

-- That, and each change that has come since can be written.
pub record FollowsWritably (t u : PlainTrader) : Type 0 where
  pub follows : Follows t u
  pub admitted : AreAdmitted follows.more

-- what a change answers and leaves; when memory ran out, all as it was
abbrev pub ActsChange : PlainTrader → Change → Result Outcome OutOfMemory → PlainTrader → Type 0
ActsChange t c (Ok o) u = (o ≡ outcome_of t c) × (u ≡ after_change t c)
ActsChange t c (Err e) u = u ≡ t

-- what a look answers and leaves
abbrev pub ActsLook : PlainTrader → Look → Result (Outcome × ℕ) OutOfMemory → PlainTrader → Type 0
ActsLook t l (Ok a) u = (a ≡ seek (store_of t) l) × (u ≡ t)
ActsLook t l (Err e) u = u ≡ t

-- how a query begins, and what it leaves
abbrev pub ActsBegin : PlainTrader → Query → Result Begin OutOfMemory → PlainTrader → Type 0
ActsBegin t q (Ok b) u = (b ≡ begin_at t q) × (u ≡ after_begin t q b)
ActsBegin t q (Err e) u = u ≡ t

-- A change or a look makes at most one entry, and no mark.
pub record ActsOnce (t u : PlainTrader) : Type 0 where
  pub follows : Follows t u
  pub once : length u.history ≤ length t.history + 1
  pub marks : u.marks ≡ t.marks

-- no mark is made, or one of an identifier that isn't remembered
abbrev pub MarksOnce : Marks → Marks → Type 0
MarksOnce m n = (n ≡ m) ⊎ MarkFollows m n

-- The beginning of a query makes at most one mark, and no entry.
pub record BeginsOnce (t u : PlainTrader) : Type 0 where
  pub follows : Follows t u
  pub history : u.history ≡ t.history
  pub once : MarksOnce t.marks u.marks

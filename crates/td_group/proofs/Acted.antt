-- What an act on a trader answers, and leaves.
use Rattle.std.proofs.Common.{◌≡◌, ℕ, Result, Ok, Err, IfOk, OnOk, OnErr, refl}
use Rattle.td_cdr.specs.declared.memory.Memory.{Memory}
use Rattle.td_marks.specs.Keeping.{AreRingMarks as AreMarks}
use Rattle.td_ops.specs.declared.call.Change.{Change}
use Rattle.td_ops.specs.declared.call.Look.{Look}
use Rattle.td_ops.specs.declared.call.Query.{Query}
use Rattle.td_ops.specs.declared.outcome.Outcome.{Outcome}
use Rattle.td_changes.specs.Applying.{seek}
use Rattle.td_trader.specs.Admitted.{AdmitsChange}
use Rattle.td_trader.specs.Following.{ActsBegin, ActsChange, ActsLook}
use Rattle.td_trader.specs.OfferLimits.{HasLimitedOffers}
use Rattle.td_trader.specs.PlainTraders.{AreBounds, PlainTrader, after_begin, after_change, begin_at, outcome_of}
use Rattle.td_trader.specs.PlainTraders.{store_of}
use Rattle.td_trader.specs.declared.begin.Begin.{Begin}
use Rattle.td_group.specs.Acting.{ChangesWritably, StartsQuery}

acted : (t u : PlainTrader) (c : Change) (r : Result Outcome Memory) → IfOk r (λ o. o ≡ outcome_of t c)
    → OnOk r (u ≡ after_change t c) → OnErr r (u ≡ t) → ActsChange t c r u
acted t u c (Ok o) content after failed = (content, after)
acted t u c (Err e) content after failed = failed

pub changes : (t u : PlainTrader) (c : Change) (r : Result Outcome Memory) → AdmitsChange c
    → IfOk r (λ o. o ≡ outcome_of t c) → OnOk r (u ≡ after_change t c) → OnErr r (u ≡ t) → ChangesWritably t c r u
changes t u c r admitted content after failed = record {
  admitted = admitted;
  changes = acted t u c r content after failed;
}

pub looks : (t : PlainTrader) (l : Look) (r : Result (Outcome × ℕ) Memory) → IfOk r (λ a. a ≡ seek (store_of t) l)
    → ActsLook t l r t
looks t l (Ok a) content = (content, refl)
looks t l (Err e) content = refl

begins : (t u : PlainTrader) (q : Query) (r : Result Begin Memory) → IfOk r (λ b. b ≡ begin_at t q)
    → IfOk r (λ b. u ≡ after_begin t q b) → OnErr r (u ≡ t) → ActsBegin t q r u
begins t u q (Ok b) content after failed = (content, after)
begins t u q (Err e) content after failed = failed

pub starts : (t u : PlainTrader) (q : Query) (r : Result Begin Memory) → AreBounds t.bounds → AreMarks t.marks
    → HasLimitedOffers (store_of t) → IfOk r (λ b. b ≡ begin_at t q) → IfOk r (λ b. u ≡ after_begin t q b)
    → OnErr r (u ≡ t) → StartsQuery t q r u
starts t u q r bounds marks limited content after failed = record {
  bounds = bounds;
  marks = marks;
  limited = limited;
  begins = begins t u q r content after failed;
}

-- How a visit begins, and what its questions come to one by one.
use Rattle.std.specs.Prelude.{◌≡◌, ℕ, List, [], ◌∷◌, ◌++◌, Option, Some, Result, Ok, Err}
use Rattle.td_cdr.specs.declared.memory.Memory.{Memory as OutOfMemory}
use Rattle.td_typecode.specs.declared.reference.Ior.{Ior}
use Rattle.td_fed.specs.declared.outside.Asking.{Asking}
use Rattle.td_fed.specs.declared.outside.Asking.TheVariants as asking
use Rattle.td_fed.specs.declared.entering.VisitStart.{VisitStart}
use Rattle.td_fed.specs.declared.entering.VisitStart.TheVariants as entry
use Rattle.td_ops.specs.declared.call.Query.{Query}
use Rattle.td_ops.specs.declared.outcome.Outcome.{Outcome}
use Rattle.td_store.specs.declared.local.Local.{Local}
use Rattle.td_trader.specs.declared.begin.Begin.{Begin}
use Rattle.td_trader.specs.declared.begin.Begin.TheVariants as begin
use Rattle.td_query_walk.specs.Beginnings.{WalkBegins}
use Rattle.td_query_walk.specs.Walks.{WalkState, EndsVisit, OpensWith, Start, Refused, Repeat, Step, answer_in}
use Rattle.td_query_walk.specs.Walks.{no_offers}
use Rattle.td_query_walk.specs.Walks.{with_world}
use Rattle.td_walk.specs.declared.answer.Next.{Next}
use Rattle.td_walk.specs.declared.answer.Next.TheVariants.{Forward}
use Rattle.td_walk.specs.declared.answer.StepAnswer.{StepAnswer}
use Rattle.td_walk.specs.declared.answer.StepAnswer.TheVariants as answer
use Rattle.td_walk.specs.declared.answer.SubAnswer.{SubAnswer}
use Rattle.td_walk.specs.declared.fault.PeerFault.{PeerFault}
use Rattle.td_walk.specs.declared.fault.PeerFault.TheVariants as fault
use Rattle.td_visit.specs.Standing.{FrameState as Frame}
use Rattle.td_walk.specs.declared.trace.TraceItem.{TraceItem}
use Rattle.td_walk.specs.declared.trace.TraceItem.TheVariants as item
use Rattle.td_walk.specs.declared.trace.Visit.{Visit}
use Rattle.td_walk.specs.declared.trace.Visit.TheVariants as visit

-- a visit that no question of was answered yet
abbrev pub new_frame : Local → Frame
new_frame l = record { local = l; answers = [] }

-- the item that shows how a query began at a trader, and what began
abbrev pub begin_item : (trader point : ℕ) → Begin → TraceItem
begin_item k point (begin.Refused o) = item.Refused k point
begin_item k point (begin.Repeat mark) = item.Repeat k point mark
begin_item k point (begin.Search l) = item.Search k l.point l.mark
begin_item k point (begin.Path l) = item.Path k l.point

-- what a visit that began is to the one that asked for it
abbrev pub asking_of : VisitStart → Asking
asking_of (entry.Ended v) = asking.Answered (answer.Offers (answer_in v))
asking_of (entry.Open f) = asking.Open f

abbrev pub entry_of : Begin → VisitStart
entry_of (begin.Refused o) = entry.Ended (visit.Refused o)
entry_of (begin.Repeat mark) = entry.Ended (visit.Answered no_offers 0)
entry_of (begin.Search l) = entry.Open (new_frame l)
entry_of (begin.Path l) = entry.Open (new_frame l)

-- a visit began, with this item
pub data EntersTrader {World : Type 0} (Begins : World → (trader : ℕ) → Query → Start → World
    → Type 0)
    (w : World) (trader : ℕ) (q : Query) : VisitStart → TraceItem → World → Type 0 where
  refused : {point : ℕ} {o : Outcome} {u : World} → Begins w trader q (Refused point o) u
      → EntersTrader Begins w trader q (entry.Ended (visit.Refused o)) (item.Refused trader point) u
  repeated : {point mark : ℕ} {u : World} → Begins w trader q (Repeat point mark) u
      → EntersTrader Begins w trader q (entry.Ended (visit.Answered no_offers 0))
      (item.Repeat trader point mark) u
  opens : {start : Start} {l : Local} {head : TraceItem} {u : World} → Begins w trader q start u
      → OpensWith trader l start head → EntersTrader Begins w trader q (entry.Open (new_frame l))
      head u

-- and the item came behind the others
pub record IsEntered {World : Type 0}
    (Begins : World → (trader : ℕ) → Query → Start → World → Type 0) (w : World) (trader : ℕ)
    (q : Query) (e : VisitStart) (before after : List TraceItem) (u : World) : Type 0 where
  pub head : TraceItem
  pub notes : after ≡ before ++ head ∷ []
  pub enters : EntersTrader Begins w trader q e head u

-- How far a visit came to begin that ran out of memory: nothing was done, but by others, and nothing noted; or it
-- began.
pub data EntersSoFar {World : Type 0}
    (Begins : World → (trader : ℕ) → Query → Start → World → Type 0)
    (Watches : World → (trader : ℕ) → World → Type 0) (w : World) (trader : ℕ)
    (q : Query) : List TraceItem → World
    → Type 0 where
  not_entered : EntersSoFar Begins Watches w trader q [] w
  only_watched : {u : World} → Watches w trader u → EntersSoFar Begins Watches w trader q [] u
  entered : {e : VisitStart} {head : TraceItem} {u : World}
      → EntersTrader Begins w trader q e head u
      → EntersSoFar Begins Watches w trader q (head ∷ []) u

pub record IsEnteredSoFar {World : Type 0}
    (Begins : World → (trader : ℕ) → Query → Start → World → Type 0)
    (Watches : World → (trader : ℕ) → World → Type 0) (w : World) (trader : ℕ) (q : Query)
    (before after : List TraceItem) (u : World) : Type 0 where
  pub items : List TraceItem
  pub notes : after ≡ before ++ items
  pub enters : EntersSoFar Begins Watches w trader q items u

-- a question was answered, or a visit began that answers it
pub data AsksQuestion {World : Type 0} (Begins : World → (trader : ℕ) → Query → Start → World
    → Type 0)
    (inside : World → (target : Ior) → Option ℕ) (s : WalkState World) (question : Next) : Asking
    → List TraceItem → WalkState World → Type 0 where
  answered : {t : List TraceItem} {r : StepAnswer} {u : WalkState World}
      → Step Begins inside s question t r u → AsksQuestion Begins inside s question
      (asking.Answered r) t u
  begun : {target : Ior} {q : Query} {k : ℕ} {start : Start} {l : Local} {head : TraceItem}
      {w : World}
      → question ≡ Forward target q → inside s.world target ≡ Some k → Begins s.world k q start w
      → OpensWith k l start head → AsksQuestion Begins inside s question (asking.Open (new_frame l))
      (head ∷ [])
      (with_world s w)

pub record IsAsked {World : Type 0} (Begins : World → (trader : ℕ) → Query → Start → World → Type 0)
    (inside : World → (target : Ior) → Option ℕ) (s : WalkState World) (question : Next)
    (a : Asking)
    (before after : List TraceItem) (u : WalkState World) : Type 0 where
  pub items : List TraceItem
  pub notes : after ≡ before ++ items
  pub asks : AsksQuestion Begins inside s question a items u

-- How far a question came that ran out of memory: nothing was done; or it was answered; or the walk from a trader of
-- the group has begun that answers it.
pub data AsksSoFar {World : Type 0} (Begins : World → (trader : ℕ) → Query → Start → World → Type 0)
    (Watches : World → (trader : ℕ) → World → Type 0) (inside : World → (target : Ior) → Option ℕ)
    (s : WalkState World) (question : Next) : List TraceItem → WalkState World → Type 0 where
  not_asked : AsksSoFar Begins Watches inside s question [] s
  had_answer : {t : List TraceItem} {r : StepAnswer} {u : WalkState World}
      → Step Begins inside s question t r u → AsksSoFar Begins Watches inside s question t u
  had_begun : {target : Ior} {q : Query} {k : ℕ} {t : List TraceItem} {u : WalkState World}
      → question ≡ Forward target q → inside s.world target ≡ Some k
      → WalkBegins Begins Watches inside s k q t u → AsksSoFar Begins Watches inside s question t u

pub record IsAskedSoFar {World : Type 0}
    (Begins : World → (trader : ℕ) → Query → Start → World → Type 0)
    (Watches : World → (trader : ℕ) → World → Type 0) (inside : World → (target : Ior) → Option ℕ)
    (s : WalkState World) (question : Next) (before after : List TraceItem)
    (u : WalkState World) : Type 0 where
  pub items : List TraceItem
  pub notes : after ≡ before ++ items
  pub asks : AsksSoFar Begins Watches inside s question items u

-- ---- the end of a visit

-- the open visit has no question left, and comes to this
pub record IsEnd {World : Type 0} (s : WalkState World) (f : Frame) (v : Visit)
    (u : WalkState World) : Type 0 where
  pub answer : SubAnswer
  pub is : v ≡ visit.Answered answer f.local.attributes.max_list
  pub ends : EndsVisit s f.local f.answers answer u

-- ---- faults of peers

-- the fault is noted and there is no answer; or memory ran out, and nothing is noted
abbrev pub NotesFault : PeerFault → (before after : List TraceItem) → Result StepAnswer OutOfMemory
    → Type 0
NotesFault fault.Memory before after r = (r ≡ Err (record {})) × (after ≡ before)
NotesFault f before after r = (r ≡ Ok answer.Failed) × (after ≡ before ++ item.Failed f ∷ [])

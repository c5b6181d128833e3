-- The open visits of a walk, the innermost last, and what one turn of the walk makes of them.
use Rattle.std.specs.Prelude.{◌≡◌, ℕ, ◌^◌, ◌<◌, List, [], ◌∷◌, ◌++◌, length, Option, None, Some}
use Rattle.td_typecode.specs.declared.reference.Ior.{Ior}
use Rattle.td_fed.specs.Entering.{AsksSoFar, IsEnd, new_frame}
use Rattle.td_ops.specs.declared.call.Query.{Query}
use Rattle.td_store.specs.declared.local.Local.{Local}
use Rattle.td_visit.specs.Standing.{FrameState as Frame}
use Rattle.td_walk.specs.Visits.{next_of}
use Rattle.td_walk.specs.declared.answer.Next.{Next}
use Rattle.td_walk.specs.declared.answer.Next.TheVariants.{Forward}
use Rattle.td_walk.specs.declared.answer.StepAnswer.{StepAnswer}
use Rattle.td_walk.specs.declared.answer.StepAnswer.TheVariants as answer
use Rattle.td_walk.specs.declared.trace.TraceItem.{TraceItem}
use Rattle.td_walk.specs.declared.trace.TraceItem.TheVariants as item
use Rattle.td_walk.specs.declared.trace.Visit.{Visit}
use Rattle.td_query_walk.specs.Walks.{WalkState, OpensWith, Start, Step, answer_in, with_world}

-- ---- the innermost visit

-- this is the question that stands in it
pub record HasQuestion (stack : List Frame) (question : Next) : Type 0 where
  pub waiting : List Frame
  pub top : Frame
  pub is : stack ≡ waiting ++ top ∷ []
  pub question_is : question ≡ next_of top.local top.answers

-- it takes this answer; no list has more than 2^64 - 1 answers
pub record TakesAnswer (stack : List Frame) (r : StepAnswer) (after : List Frame) : Type 0 where
  pub waiting : List Frame
  pub top : Frame
  pub is : stack ≡ waiting ++ top ∷ []
  pub room : length top.answers < 2 ^ 64
  pub after_is : after ≡ waiting ++ record { local = top.local; answers = top.answers ++ r ∷ [] }
      ∷ []

-- ---- one turn

-- The innermost visit's question is answered; or it waits for a visit that begins; or it has ended, and the visit that
-- waited for it takes what it gives.
pub data StepsWalk {World : Type 0} (Begins : World → (trader : ℕ) → Query → Start → World → Type 0)
    (inside : World → (target : Ior) → Option ℕ) (s : WalkState World)
    (stack : List Frame) : List Frame
    → List TraceItem → WalkState World → Type 0 where
  answered : {after : List Frame} {t : List TraceItem} {u : WalkState World} (question : Next)
      (r : StepAnswer)
      → HasQuestion stack question → Step Begins inside s question t r u → TakesAnswer stack r after
      → StepsWalk Begins inside s stack after t u
  begun : (target : Ior) (q : Query) (k : ℕ) (start : Start) (l : Local) (head : TraceItem)
      (w : World)
      → HasQuestion stack (Forward target q) → inside s.world target ≡ Some k
      → Begins s.world k q start w
      → OpensWith k l start head → l.attributes.max_hop_count < 2 ^ 32
      → StepsWalk Begins inside s stack (stack ++ new_frame l ∷ []) (head ∷ []) (with_world s w)
  ended : {after : List Frame} {u : WalkState World} (waiting : List Frame) (top : Frame)
      (v : Visit)
      → stack ≡ waiting ++ top ∷ [] → IsEnd s top v u
      → TakesAnswer waiting (answer.Offers (answer_in v)) after
      → StepsWalk Begins inside s stack after (item.Leave ∷ []) u

-- the one visit that nothing waited for has ended
pub record IsLast {World : Type 0} (s : WalkState World) (stack : List Frame) (v : Visit)
    (t : List TraceItem) (u : WalkState World) : Type 0 where
  pub top : Frame
  pub is : stack ≡ top ∷ []
  pub items_are : t ≡ item.Leave ∷ []
  pub end : IsEnd s top v u

abbrev pub TurnsTo : {World : Type 0} → (World → (trader : ℕ) → Query → Start → World → Type 0)
    → (World → (target : Ior) → Option ℕ) → WalkState World → (stack : List Frame) → Option Visit
    → (after : List Frame) → List TraceItem → WalkState World → Type 0
TurnsTo Begins inside s stack (Some v) after t u = IsLast s stack v t u
TurnsTo Begins inside s stack None after t u = StepsWalk Begins inside s stack after t u

-- what a turn makes of the open visits, and what the walk comes to, if it has ended
pub record IsWalkTurn {World : Type 0} (Begins : World → (trader : ℕ) → Query → Start → World
    → Type 0)
    (inside : World → (target : Ior) → Option ℕ) (s : WalkState World) (stack : List Frame)
    (v : Option Visit) (after : List Frame) (before now : List TraceItem)
    (u : WalkState World) : Type 0 where
  pub items : List TraceItem
  pub notes : now ≡ before ++ items
  pub turns : TurnsTo Begins inside s stack v after items u

-- How far a turn came that ran out of memory: nothing was done; or the innermost visit's question came so far; or that
-- visit has ended.
pub data TurnsSoFar {World : Type 0}
    (Begins : World → (trader : ℕ) → Query → Start → World → Type 0)
    (Watches : World → (trader : ℕ) → World → Type 0) (inside : World → (target : Ior) → Option ℕ)
    (s : WalkState World) (stack : List Frame) : List TraceItem → WalkState World → Type 0 where
  not_turned : TurnsSoFar Begins Watches inside s stack [] s
  was_asked : {t : List TraceItem} {u : WalkState World} (question : Next)
      → HasQuestion stack question
      → AsksSoFar Begins Watches inside s question t u
      → TurnsSoFar Begins Watches inside s stack t u
  had_ended : {u : WalkState World} (waiting : List Frame) (top : Frame) (v : Visit)
      → stack ≡ waiting ++ top ∷ []
      → IsEnd s top v u → TurnsSoFar Begins Watches inside s stack (item.Leave ∷ []) u

pub record IsTurnSoFar {World : Type 0}
    (Begins : World → (trader : ℕ) → Query → Start → World → Type 0)
    (Watches : World → (trader : ℕ) → World → Type 0) (inside : World → (target : Ior) → Option ℕ)
    (s : WalkState World) (stack : List Frame) (before now : List TraceItem)
    (u : WalkState World) : Type 0 where
  pub items : List TraceItem
  pub notes : now ≡ before ++ items
  pub turns : TurnsSoFar Begins Watches inside s stack items u

-- ---- the end of a visit

-- what a visit gives goes to the one that waits for it, if one does
abbrev pub Returns : Visit → (waiting : List Frame) → Option Visit → (after : List Frame) → Type 0
Returns v waiting (Some w) after = (waiting ≡ []) × (w ≡ v)
Returns v waiting None after = TakesAnswer waiting (answer.Offers (answer_in v)) after

-- the innermost visit has ended
pub record Closes {World : Type 0} (s : WalkState World) (stack : List Frame) (v : Option Visit)
    (after : List Frame) (u : WalkState World) : Type 0 where
  pub waiting : List Frame
  pub top : Frame
  pub visit : Visit
  pub is : stack ≡ waiting ++ top ∷ []
  pub end : IsEnd s top visit u
  pub returns : Returns visit waiting v after

-- How far the end of the innermost visit came that ran out of memory: nothing was done, or it has ended.
pub data ClosesSoFar {World : Type 0} (s : WalkState World) (stack : List Frame)
    (before : List TraceItem) : (now : List TraceItem) → WalkState World → Type 0 where
  not_closed : ClosesSoFar s stack before before s
  had_closed : {u : WalkState World} (waiting : List Frame) (top : Frame) (v : Visit)
      → stack ≡ waiting ++ top ∷ []
      → IsEnd s top v u → ClosesSoFar s stack before (before ++ item.Leave ∷ []) u

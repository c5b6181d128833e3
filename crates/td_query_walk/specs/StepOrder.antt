-- The steps of a walk, one for each question of a visit.
use Rattle.std.specs.Prelude.{◌≡◌, ℕ, List, [], ◌∷◌, ◌++◌, Option}
use Rattle.td_typecode.specs.declared.reference.Ior.{Ior}
use Rattle.td_ops.specs.declared.call.Query.{Query}
use Rattle.td_store.specs.declared.local.Local.{Local}
use Rattle.td_walk.specs.declared.answer.Next.{Next}
use Rattle.td_walk.specs.declared.answer.StepAnswer.{StepAnswer}
use Rattle.td_walk.specs.declared.trace.TraceItem.{TraceItem}
use Rattle.td_query_walk.specs.SearchOrder.{AsksInOrder}
use Rattle.td_query_walk.specs.Walks.{WalkState, Start, Step}

-- The items are one step for each question, one behind the other, and these are the answers.
pub data OneStepEach {World : Type 0}
    (Begins : World → (trader : ℕ) → Query → Start → World → Type 0)
    (inside : World → (target : Ior) → Option ℕ) : WalkState World → List Next → List TraceItem
    → List StepAnswer → WalkState World → Type 0 where
  no_step : {s : WalkState World} → OneStepEach Begins inside s [] [] [] s
  one_step : {s : WalkState World} {q : Next} {qs : List Next} {t ts : List TraceItem}
      {r : StepAnswer}
      {rs : List StepAnswer} {m u : WalkState World} → Step Begins inside s q t r m
      → OneStepEach Begins inside m qs ts rs u
      → OneStepEach Begins inside s (q ∷ qs) (t ++ ts) (r ∷ rs) u

-- a visit's questions, each with its step
pub record StepsBy {World : Type 0} (Begins : World → (trader : ℕ) → Query → Start → World → Type 0)
    (inside : World → (target : Ior) → Option ℕ) (s : WalkState World) (l : Local)
    (before : List StepAnswer) (items : List TraceItem) (all : List StepAnswer)
    (u : WalkState World) : Type 0 where
  pub questions : List Next
  pub later : List StepAnswer
  pub answers : all ≡ before ++ later
  pub asked : AsksInOrder l before questions later
  pub steps : OneStepEach Begins inside s questions items later u

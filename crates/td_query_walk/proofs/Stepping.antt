-- The steps of a walk are one for each question of its visit.
use Rattle.std.proofs.Common.{◌≡◌, ℕ, List, [], ◌∷◌, refl, sym, ◌∙◌, append_assoc, append-nil}
use Rattle.std.specs.Prelude.{Option}
use Rattle.td_typecode.specs.declared.reference.Ior.{Ior}
use Rattle.td_ops.specs.declared.call.Query.{Query}
use Rattle.td_store.specs.declared.local.Local.{Local}
use Rattle.td_walk.specs.Visits.{next_of}
use Rattle.td_walk.specs.declared.answer.Next.{Next}
use Rattle.td_walk.specs.declared.answer.Next.TheVariants.{Done}
use Rattle.td_walk.specs.declared.answer.StepAnswer.{StepAnswer}
use Rattle.td_walk.specs.declared.trace.TraceItem.{TraceItem}
use Rattle.td_query_walk.specs.StepOrder.{StepsBy, no_step, one_step}
use Rattle.td_query_walk.specs.WalkLaws.{BeginsIn, Group}
use Rattle.td_query_walk.specs.Walks.{WalkState, Start, Step, Steps, asked, done, evaluated, outside, no_memory_with}
use Rattle.td_query_walk.specs.Walks.{unevaluated, unreachable, visited}

-- a step is made for a question that stands
step-stands : {World : Type 0} {Begins : World → (trader : ℕ) → Query → Start → World → Type 0}
    {inside : World → (target : Ior) → Option ℕ} {s : WalkState World} {q : Next} {t : List TraceItem} {r : StepAnswer}
    {u : WalkState World} → Step Begins inside s q t r u → q ≡ Done → ⊥
step-stands (visited i w) e = absurd cc
step-stands (outside i small) e = absurd cc
step-stands (no_memory_with i m) e = absurd cc
step-stands (evaluated i) e = absurd cc
step-stands (unevaluated i m) e = absurd cc
step-stands (unreachable i) e = absurd cc

pub steps-by : {World : Type 0} {Begins : World → (trader : ℕ) → Query → Start → World → Type 0}
    {inside : World → (target : Ior) → Option ℕ} {s : WalkState World} {l : Local} {before : List StepAnswer}
    {t : List TraceItem} {all : List StepAnswer} {u : WalkState World} → Steps Begins inside s l before t all u
    → StepsBy Begins inside s l before t all u
steps-by (done {answers = before} e) = record {
  questions = [];
  later = [];
  answers = sym (append-nil before);
  asked = e;
  steps = no_step;
}
steps-by (asked {l = l} {answers = before} {r = r} step more) =
    let others = steps-by more in
    record {
      questions = next_of l before ∷ others.questions;
      later = r ∷ others.later;
      answers = others.answers ∙ append_assoc before (r ∷ []) others.later;
      asked = (refl, step-stands step, others.asked);
      steps = one_step step others.steps;
    }

pub all-step : (group : Group) (inside : ℕ → Ior → Option ℕ) (s u : WalkState ℕ) (l : Local) (items : List TraceItem)
    (answers : List StepAnswer) → Steps (BeginsIn group) inside s l [] items answers u
    → StepsBy (BeginsIn group) inside s l [] items answers u
all-step group inside s u l items answers steps = steps-by steps

-- What a step of the code tells of a reading of answers.
use Rattle.std.specs.Prelude.{◌≡◌, List, [], ◌∷◌, ◌++◌, Option, None, Some, Result, Ok, Err}
use Rattle.td_cdr.specs.Format.{◌>>=◌}
use Rattle.td_eval.specs.Mentioning.{Names}
use Rattle.td_value.specs.declared.structures.Property.{Property}
use Rattle.td_walk.specs.Visits.{AnswersRead, evaluated_name}
use Rattle.td_walk.specs.declared.answer.Next.{Next}
use Rattle.td_walk.specs.declared.answer.StepAnswer.{StepAnswer}
use Rattle.td_walk.specs.declared.evaluation.Evaluation.{Evaluation}

-- the question to which there is no answer, or what came of the answers with those that are left
abbrev pub AsksOrGives : {X : Type 0} → AnswersRead X → Option Next → (new : X)
    → (left : List StepAnswer)
    → Type 0
AsksOrGives reads None new left = reads ≡ Ok (new, left)
AsksOrGives reads (Some question) new left = reads ≡ Err question

-- the same, where what came of the answers is added behind the old
abbrev pub TellsMore : {X : Type 0} → AnswersRead (List X) → Option Next → (old new : List X)
    → (left : List StepAnswer) → Type 0
TellsMore reads question old new left = AsksOrGives (reads >>= λ r. Ok (old ++ r.0, r.1))
    question new left

-- nothing is changed where a question stands
abbrev pub UnchangedIfAsking : {X : Type 0} → Option Next → (old new : X) → Type 0
UnchangedIfAsking None old new = Unit {0}
UnchangedIfAsking (Some question) old new = new ≡ old

-- ---- where a reading of answers stops

-- what comes of a reading, or else where it stopped to ask
abbrev pub comes_to : {A B : Type 0} → Result A Next → (A → B) → B → B
comes_to (Ok x) f stopped = f x
comes_to (Err question) f stopped = stopped

-- the evaluations that there are answers to, behind those that were made
abbrev pub made_up_to : List Property → List Evaluation → Names → List StepAnswer → List Evaluation
made_up_to properties made [] answers = made
made_up_to properties made (name ∷ names) answers =
    comes_to (evaluated_name properties made name answers)
    (λ r. made_up_to properties r.0 names r.1) made

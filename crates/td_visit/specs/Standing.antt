-- A visit that waits for the answers to its questions.
use Rattle.std.specs.Prelude.{List, refl}
use Rattle.std.specs.Coded.{Coded, code_by, coded×, coded_list}
use Rattle.td_store.specs.declared.local.Local.{Local}
use Rattle.td_walk.specs.declared.answer.StepAnswer.{StepAnswer}

pub record FrameState : Type 0 where
  -- what the trader knew when the query came
  pub local : Local
  -- and the answers that there are
  pub answers : List StepAnswer

-- it is stored as the pair of its fields
abbrev pub standing_code : Coded Local → Coded StepAnswer → Coded FrameState
standing_code of_local of_answer =
    code_by
    (Local × List StepAnswer)
    (coded× of_local (coded_list of_answer))
    (λ s. (s.local, s.answers))
    (λ p. record { local = p.0; answers = p.1 })
    (λ _. refl)

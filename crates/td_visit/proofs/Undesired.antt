-- Where no properties are desired, the offers that matched are complete as they are.
use Rattle.std.proofs.Common.{◌≡◌, Bool, true, false, List, [], ◌∷◌, ◌++◌, Ok, refl, sym, ap, ◌∙◌, append_assoc, append-nil}
use Rattle.std.proofs.Common.{if◌then◌else◌}
use Rattle.td_cdr.specs.Format.{◌>>=◌}
use Rattle.td_store.specs.declared.record.OfferRecord.{OfferRecord}
use Rattle.td_value.specs.declared.unions.SpecifiedProps.TheVariants as props
use Rattle.td_visit.specs.Resuming.{completed_up_to, made_completing}
use Rattle.td_visit.specs.declared.progress.Completion.{Completion}
use Rattle.td_walk.specs.Questions.{comes_to}
use Rattle.td_walk.specs.Visits.{AnswersRead, all_completed, complete_offer, is_ordinary}
use Rattle.td_walk.specs.declared.answer.StepAnswer.{StepAnswer}
use Rattle.td_walk.specs.declared.evaluation.Evaluation.{Evaluation}
use Rattle.td_walk.specs.declared.found.Found.{Found}

either : (b : Bool) (made : List Evaluation) (answers : List StepAnswer)
    → (let r : AnswersRead (List Evaluation) = if b then Ok (made, answers) else Ok (made, answers) in r) ≡ Ok (made, answers)
either true made answers = refl
either false made answers = refl

one_undesired : (o : OfferRecord) (made : List Evaluation) (answers : List StepAnswer)
    → complete_offer props.None o made answers ≡ Ok (made, answers)
one_undesired o made answers = either (is_ordinary o) made answers

pub undesired_reads : (before fs all : List Found) (answers : List StepAnswer) → all ≡ before ++ fs
    → all_completed props.None before fs answers ≡ Ok (all, answers)
undesired_reads before [] all answers e =
    ap (λ (xs : List Found). let r : AnswersRead (List Found) = Ok (xs, answers) in r) (sym (e ∙ append-nil before))
undesired_reads before (f ∷ fs) all answers e =
    ap (λ (r : AnswersRead (List Evaluation)). r
    >>= λ x. all_completed props.None (before ++ record { offer = f.offer; made = x.0 } ∷ []) fs x.1)
    (one_undesired f.offer f.made answers)
    ∙ undesired_reads (before ++ f ∷ []) fs all answers (e ∙ sym (append_assoc before (f ∷ []) fs))

pub undesired_stops : (before fs all : List Found) (answers : List StepAnswer) (now : Completion) → all ≡ before ++ fs
    → now ≡ record { waiting = []; complete = all } → now ≡ completed_up_to props.None before fs answers
undesired_stops before [] all answers now e is =
    is ∙ ap (λ (xs : List Found). let c : Completion = record { waiting = []; complete = xs } in c) (e ∙ append-nil before)
undesired_stops before (f ∷ fs) all answers now e is =
    undesired_stops (before ++ f ∷ []) fs all answers now (e ∙ sym (append_assoc before (f ∷ []) fs)) is
    ∙ sym (ap (λ (r : AnswersRead (List Evaluation)). comes_to r
    (λ x. completed_up_to props.None (before ++ record { offer = f.offer; made = x.0 } ∷ []) fs x.1)
    (record {
      waiting = record { offer = f.offer; made = made_completing props.None f.offer f.made answers } ∷ fs;
      complete = before;
    })) (one_undesired f.offer f.made answers))

pub ruleset undesired = (undesired_reads, undesired_stops)

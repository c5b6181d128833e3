-- Where a visit stands that waits for the answer to its question, and how it goes on from there.
use Rattle.std.specs.Prelude.{◌≡◌, ℕ, ◌+◌, ◌≤◌, nat_le, Bool, true, false, if◌then◌else◌, List, [], ◌∷◌}
use Rattle.std.specs.Prelude.{◌++◌, length, take, drop, map, Option, None, Some, Ok, Err}
use Rattle.std.specs.List.{list_any}
use Rattle.td_cdr.specs.Format.{◌>>=◌}
use Rattle.td_eval.specs.Mentioning.{names_asked}
use Rattle.td_store.specs.declared.local.Local.{Local}
use Rattle.td_store.specs.declared.record.LinkRecord.{LinkRecord}
use Rattle.td_store.specs.declared.record.OfferRecord.{OfferRecord}
use Rattle.td_value.specs.declared.unions.SpecifiedProps.{SpecifiedProps}
use Rattle.td_walk.specs.SubQueries.{link_step, proxy_step, wanted_behind}
use Rattle.td_walk.specs.Questions.{AsksOrGives, comes_to, made_up_to}
use Rattle.td_walk.specs.Visits.{AnswersRead, evaluate_names, matches_all, if_matching, desired_names, is_ordinary}
use Rattle.td_walk.specs.Visits.{complete_offer, all_completed, sub_answer, Step, less, forward_steps, steps}
use Rattle.td_walk.specs.Visits.{count_ordinary}
use Rattle.td_walk.specs.Visits.{path_step, gathered_offers, visit_of}
use Rattle.td_walk.specs.declared.answer.Next.{Next}
use Rattle.td_walk.specs.declared.answer.Next.TheVariants.{Done}
use Rattle.td_walk.specs.declared.answer.StepAnswer.{StepAnswer}
use Rattle.td_walk.specs.declared.answer.SubAnswer.{SubAnswer}
use Rattle.td_walk.specs.declared.evaluation.Evaluation.{Evaluation}
use Rattle.td_walk.specs.declared.found.Found.{Found}
use Rattle.td_walk.specs.declared.gathering.Gathered.{Gathered}
use Rattle.td_visit.specs.declared.progress.Completion.{Completion}
use Rattle.td_visit.specs.declared.progress.Others.{Others}
use Rattle.td_visit.specs.declared.progress.Progress.{Progress}
use Rattle.td_visit.specs.declared.progress.Scan.{Scan}

-- ---- where a reading of answers stops

-- a candidate of which evaluations were made
abbrev pub tried_on : Local → OfferRecord → List Evaluation → List StepAnswer
    → AnswersRead (List Found)
tried_on l o made answers =
    if matches_all o.proxy then Ok (record { offer = o; made = made } ∷ [], answers)
    else evaluate_names o.properties made (names_asked l.constraint l.preference) answers
    >>= λ r. Ok (if_matching l o r.0, r.1)

-- the evaluations of the candidate that is tried: none, once it was
abbrev pub made_trying : Local → OfferRecord → List Evaluation → List StepAnswer → List Evaluation
made_trying l o made answers =
    comes_to (tried_on l o made answers) (λ r. [])
    (made_up_to o.properties made (names_asked l.constraint l.preference) answers)

-- the candidates that are left, where evaluations of the first were made
abbrev pub searched_on : Local → List OfferRecord → List Found → List Evaluation → List StepAnswer →
    AnswersRead (List Found)
searched_on l [] found made answers = Ok (found, answers)
searched_on l (o ∷ os) found made answers =
    if nat_le l.effective.match_card (length found) then Ok (found, answers)
    else tried_on l o made answers >>= λ r. searched_on l os (found ++ r.0) [] r.1

-- where the search stops, and which offers matched before
abbrev pub searched_up_to : Local → List OfferRecord → (tried : ℕ) → List Found → List Evaluation →
    List StepAnswer → Scan
searched_up_to l [] tried found made answers = record { tried = tried; made = made; found = found }
searched_up_to l (o ∷ os) tried found made answers =
    if nat_le l.effective.match_card (length found) then record {
      tried = tried;
      made = made;
      found = found;
    }
    else comes_to (tried_on l o made answers)
    (λ r. searched_up_to l os (tried + 1) (found ++ r.0) [] r.1)
    (record { tried = tried; made = made_trying l o made answers; found = found })

abbrev pub made_completing : SpecifiedProps → OfferRecord → List Evaluation → List StepAnswer
    → List Evaluation
made_completing desired o made answers =
    if is_ordinary o then made_up_to o.properties made (desired_names desired o.properties)
    answers else made

-- where the evaluation of desired properties stops, and which offers are complete before
abbrev pub completed_up_to : SpecifiedProps → (before : List Found) → List Found → List StepAnswer
    → Completion
completed_up_to desired before [] answers = record { waiting = []; complete = before }
completed_up_to desired before (f ∷ fs) answers =
    comes_to (complete_offer desired f.offer f.made answers)
    (λ r. completed_up_to desired (before ++ record { offer = f.offer; made = r.0 } ∷ []) fs r.1)
    (record {
      waiting = record { offer = f.offer; made = made_completing desired f.offer f.made answers }
          ∷ fs;
      complete = before;
    })

-- ---- which other traders are left

-- how many offers are wanted of other traders at first
abbrev pub first_wanted : Local → List Found → Option ℕ
first_wanted l found = wanted_behind l (count_ordinary found)

-- none was asked yet
abbrev pub none_asked : (local_match : Bool) → (wanted : Option ℕ) → Others
none_asked local_match wanted =
    record { local_match = local_match; wanted = wanted; offers = 0; links = 0; given = 0 }

abbrev pub asks_first : Local → List Found → Others
asks_first l found = none_asked (list_any (λ f. is_ordinary f.offer) found) (first_wanted l found)

-- those of the offers and of the links that weren't passed by
abbrev pub steps_left : Local → List Found → Others → List Step
steps_left l found others =
    map (λ f wanted. proxy_step l wanted f.offer) (drop others.offers found)
    ++ map (λ link wanted. link_step l wanted others.local_match link) (drop others.links l.links)

-- what so many answers give
abbrev pub given_by : (count : ℕ) → List StepAnswer → List SubAnswer
given_by count answers = map sub_answer (take count answers)

-- what is read behind what was given
abbrev pub behind : List SubAnswer → AnswersRead (List SubAnswer) → AnswersRead (List SubAnswer)
behind given r = r >>= λ s. Ok (given ++ s.0, s.1)

-- So many of the steps have their answers: whatever comes behind these, from there the steps that are left are taken.
abbrev pub ResumesWith : (first : Option ℕ) → (all : List Step) → List StepAnswer → (given : ℕ)
    → (wanted : Option ℕ) → (left : List Step) → Type 0
ResumesWith first all answers given wanted left =
    (rest : List StepAnswer) → forward_steps first all (take given answers ++ rest)
    ≡ behind (given_by given answers) (forward_steps wanted left rest)

-- So far a search has come.
pub record IsPlaceInSearch (l : Local) (found : List Found) (answers : List StepAnswer)
    (others : Others) : Type 0 where
  pub offers : others.offers ≤ length found
  pub links : others.links ≤ length l.links
  pub given : others.given ≤ length answers
  pub left : ResumesWith (first_wanted l found) (steps l found) answers others.given others.wanted
      (steps_left l found others)

-- along a path there is one question
pub record IsPlaceOnPath (answers : List StepAnswer) (others : Others) : Type 0 where
  pub given : others.given ≤ length answers
  pub one : others.given ≤ 1

abbrev pub IsPlaceBy : Option LinkRecord → Local → List Found → List StepAnswer → Others → Type 0
IsPlaceBy None l found answers others = IsPlaceInSearch l found answers others
IsPlaceBy (Some link) l found answers others = IsPlaceOnPath answers others

abbrev pub IsPlace : Local → List Found → List StepAnswer → Others → Type 0
IsPlace l found answers others = IsPlaceBy l.path l found answers others

-- ---- one step

-- one answer more is given, and as many fewer offers are wanted
abbrev pub with_answer : Others → SubAnswer → Others
with_answer others a = record {
  local_match = others.local_match;
  wanted = less others.wanted a;
  offers = others.offers;
  links = others.links;
  given = others.given + 1;
}

-- a step comes to its question where that has no answer
abbrev pub step_asks : (step : Option Next) → (left : List StepAnswer) → Option Next
step_asks None left = None
step_asks (Some question) [] = Some question
step_asks (Some question) (a ∷ left) = None

-- else its answer is passed by
abbrev pub passed_by : (step : Option Next) → (left : List StepAnswer) → Others → Others
passed_by None left others = others
passed_by (Some question) [] others = others
passed_by (Some question) (a ∷ left) others = with_answer others (sub_answer a)

-- ---- how a visit goes on

-- the steps to other traders
abbrev pub steps_by : Option LinkRecord → Local → List Found → List Step
steps_by None l found = steps l found
steps_by (Some link) l found = path_step l link ∷ []

abbrev pub wanted_by : Option LinkRecord → Local → List Found → Option ℕ
wanted_by None l found = first_wanted l found
wanted_by (Some link) l found = None

-- with these steps all answers are read, or a question stands to which there is none
abbrev pub Forwards : (first : Option ℕ) → List Step → List StepAnswer → (given : ℕ) → Option Next
    → Type 0
Forwards first all answers given question =
    AsksOrGives (forward_steps first all answers) question (given_by given answers)
    (drop given answers)

abbrev pub ForwardsBy : Option LinkRecord → Local → List Found → List StepAnswer → (given : ℕ)
    → Option Next → Type 0
ForwardsBy path l found answers given question =
    Forwards (wanted_by path l found) (steps_by path l found) answers given question

-- the offers come to a question that has no answer, or all are passed by
abbrev pub CallsTo : Local → List Found → List StepAnswer → Others → Option Next → Type 0
CallsTo l found answers others None = others.offers ≡ length found
CallsTo l found answers others (Some question) = forward_steps (first_wanted l found)
    (steps l found) answers ≡ Err question

-- once the candidates were searched
abbrev pub completed_on : Option LinkRecord → Local → (complete : List Found)
    → (waiting : List Found) → List StepAnswer → AnswersRead Gathered
completed_on path l complete waiting answers =
    all_completed l.query.desired complete waiting answers
    >>= λ r. gathered_offers r.0 r.1 (wanted_by path l r.0) (steps_by path l r.0)

abbrev pub searching_on : Option LinkRecord → Local → Scan → List StepAnswer → AnswersRead Gathered
searching_on path l s answers =
    searched_on l (drop s.tried l.candidates) s.found s.made answers >>= λ r.
    completed_on path l [] r.0 r.1

abbrev pub resumed_by : Option LinkRecord → Local → Progress → List StepAnswer
    → AnswersRead Gathered
resumed_by path l p answers =
    if p.searched then completed_on path l p.completion.complete p.completion.waiting answers
    else searching_on path l p.scan answers

unfoldable pub resume_visit : Local → Progress → List StepAnswer → AnswersRead Gathered
resume_visit l p answers = resumed_by l.path l p answers

-- nothing was read yet, and with a path nothing is searched
abbrev pub start : (along : Bool) → Progress
start along = record {
  read = 0;
  searched = along;
  completed = false;
  scan = record { tried = 0; made = []; found = [] };
  completion = record { waiting = []; complete = [] };
  others = none_asked false None;
}

-- Where no offer waits any more, this is how far the other traders were asked.
pub record AsksOthers (l : Local) (answers : List StepAnswer) (p : Progress) : Type 0 where
  pub searched : p.searched ≡ true
  pub complete : p.completion.waiting ≡ []
  pub place : IsPlace l p.completion.complete (drop p.read answers) p.others

-- This is how far the visit has come with the first answers, whatever comes behind them.
pub record HasProgress (l : Local) (answers : List StepAnswer) (p : Progress) : Type 0 where
  pub within : p.read ≤ length answers
  pub tries : p.scan.tried ≤ length l.candidates
  pub goes_on : (rest : List StepAnswer) → visit_of l (take p.read answers ++ rest)
      ≡ resume_visit l p rest
  pub asks : p.completed ≡ true → AsksOthers l answers p

-- ---- the end

abbrev pub answers_left : List StepAnswer → Progress → List StepAnswer
answers_left answers p = drop p.read answers

-- the visit is at its end, and this is what it comes to
abbrev pub visit_end : List StepAnswer → Progress → Gathered
visit_end answers p =
    record {
      found = p.completion.complete;
      given = given_by p.others.given (answers_left answers p);
    }

pub record IsEnd (l : Local) (answers : List StepAnswer) (p : Progress) : Type 0 where
  pub within : p.read + p.others.given ≤ length answers
  pub after : List StepAnswer
  pub comes : visit_of l answers ≡ Ok (visit_end answers p, after)

-- ---- where a visit comes to

-- this question stands, and it is one
pub record IsAsked (l : Local) (answers : List StepAnswer) (question : Next) : Type 0 where
  pub comes : visit_of l answers ≡ Err question
  pub asks : question ≡ Done → ⊥

-- to its question, or to the end of the search
abbrev pub SearchesTo : Local → List StepAnswer → Progress → Option Next → Type 0
SearchesTo l answers p None = p.searched ≡ true
SearchesTo l answers p (Some question) = IsAsked l answers question

-- to its question, or to other traders
abbrev pub CompletesTo : Local → List StepAnswer → Progress → Option Next → Type 0
CompletesTo l answers p None = p.completed ≡ true
CompletesTo l answers p (Some question) = IsAsked l answers question

-- to its question, or to its end
abbrev pub ComesTo : Local → List StepAnswer → Progress → Option Next → Type 0
ComesTo l answers p None = IsEnd l answers p
ComesTo l answers p (Some question) = IsAsked l answers question

-- The questions of a search, in order (OMG's Trading Object Service, interface Lookup, query; "Link Follow Behavior";
-- module CosTradingDynamic): the evaluations of the candidates, those of the offers that matched, the proxy offers'
-- traders by number, and the links' targets in the order of adding.
use Rattle.std.specs.Prelude.{◌≡◌, ℕ, ◌+◌, ◌<◌, ◌≤◌, Bool, ◌||◌, if◌then◌else◌, List, [], ◌∷◌, ◌++◌, length, map}
use Rattle.std.specs.Prelude.{Option, None, Some}
use Rattle.std.specs.List.{flat_map, list_any}
use Rattle.std.specs.Str.{bytes_eq}
use Rattle.td_eval.specs.Mentioning.{Names, names_asked}
use Rattle.td_eval.specs.Values.{matches_constraint}
use Rattle.td_store.specs.declared.local.Local.{Local}
use Rattle.td_store.specs.declared.record.OfferRecord.{OfferRecord}
use Rattle.td_value.specs.declared.structures.DynamicProp.{DynamicProp}
use Rattle.td_value.specs.declared.structures.Property.{Property}
use Rattle.td_value.specs.declared.unions.SpecifiedProps.{SpecifiedProps}
use Rattle.td_walk.specs.Resolving.{dynamic_named, resolved}
use Rattle.td_walk.specs.SubQueries.{link_step, proxy_step, wanted_behind}
use Rattle.td_walk.specs.Visits.{Step, count_ordinary, desired_names, evaluation, is_ordinary, less, matches_all}
use Rattle.td_walk.specs.Visits.{next_of, question_on, sub_answer}
use Rattle.td_walk.specs.declared.answer.Next.{Next}
use Rattle.td_walk.specs.declared.answer.Next.TheVariants.{Done}
use Rattle.td_walk.specs.declared.answer.StepAnswer.{StepAnswer}
use Rattle.td_walk.specs.declared.evaluation.Evaluation.{Evaluation}
use Rattle.td_walk.specs.declared.found.Found.{Found}

-- ---- what a visit asks

-- Behind the answers before, the visit asks these questions, one for each of the later answers, and no more.
abbrev pub AsksInOrder : Local → (before : List StepAnswer) → List Next → (later : List StepAnswer)
    → Type 0
AsksInOrder l before [] [] = next_of l before ≡ Done
AsksInOrder l before (q ∷ qs) (a ∷ later) = (next_of l before ≡ q) × (q ≡ Done → ⊥)
    × AsksInOrder l (before ++ a ∷ []) qs later
AsksInOrder l before [] (a ∷ later) = ⊥
AsksInOrder l before (q ∷ qs) [] = ⊥

-- ---- evaluations of one offer

-- a dynamic property and its name
abbrev pub Dynamics : Type 0
Dynamics = List (List ℕ × DynamicProp)

abbrev pub is_among : (name : List ℕ) → Names → Bool
is_among name names = list_any (λ other. bytes_eq other name) names

-- a dynamic property is evaluated, and its name isn't asked for again
abbrev pub with_dynamic : (name : List ℕ) → Option DynamicProp → (evaluated : Names)
    → (Names → Dynamics) → Dynamics
with_dynamic name None evaluated others = others evaluated
with_dynamic name (Some d) evaluated others = (name, d) ∷ others (evaluated ++ name ∷ [])

-- the dynamic properties of these names, in their order, each once and only if it isn't evaluated yet
abbrev pub dynamics : List Property → (evaluated : Names) → Names → Dynamics
dynamics properties evaluated [] = []
dynamics properties evaluated (name ∷ names) =
    if is_among name evaluated then dynamics properties evaluated names
    else with_dynamic name (dynamic_named properties name) evaluated
    (λ more. dynamics properties more names)

abbrev pub questions_on : Dynamics → List Next
questions_on wanted = map (λ w. question_on w.0 w.1) wanted

-- what the answers, one for each, make of them
abbrev pub evaluations : Dynamics → List StepAnswer → List Evaluation
evaluations [] answers = []
evaluations (w ∷ ws) [] = []
evaluations (w ∷ ws) (a ∷ answers) = evaluation w.0 w.1 a ∷ evaluations ws answers

-- ---- candidates

-- Of a candidate: what the constraint mentions, and then what the preference does; nothing of a proxy offer with
-- if_match_all.
abbrev pub to_be_tried : Local → OfferRecord → Dynamics
to_be_tried l o =
    if matches_all o.proxy then [] else dynamics o.properties []
    (names_asked l.constraint l.preference)

-- the candidate, where it matches by these answers
abbrev pub matched_candidate : Local → OfferRecord → List StepAnswer → List Found
matched_candidate l o answers =
    if matches_all o.proxy || matches_constraint
    (resolved (evaluations (to_be_tried l o) answers) o.properties) l.constraint
    then record { offer = o; made = evaluations (to_be_tried l o) answers } ∷ [] else []

-- Candidates are tried one after the other, behind so many that matched, until match_card have matched: what is asked,
-- the answers, and the candidates that match.
pub data Tries (l : Local) : (count : ℕ) → List OfferRecord → List Next → List StepAnswer
    → List Found → Type 0 where
  none_left : (count : ℕ) → Tries l count [] [] [] []
  enough : (count : ℕ) (os : List OfferRecord) → l.effective.match_card ≤ count
      → Tries l count os [] [] []
  tries : (count : ℕ) (o : OfferRecord) (os : List OfferRecord) (here later : List StepAnswer)
      (qs : List Next) (found : List Found) → count < l.effective.match_card
      → length here ≡ length (to_be_tried l o)
      → Tries l (count + length (matched_candidate l o here)) os qs later found
      → Tries l count (o ∷ os) (questions_on (to_be_tried l o) ++ qs) (here ++ later)
      (matched_candidate l o here ++ found)

-- ---- offers that matched

abbrev pub names_of : List Evaluation → Names
names_of made = map (λ e. e.name) made

-- of an ordinary offer the desired properties that weren't evaluated
abbrev pub to_be_completed : SpecifiedProps → Found → Dynamics
to_be_completed desired f =
    if is_ordinary f.offer
    then dynamics f.offer.properties (names_of f.made) (desired_names desired f.offer.properties)
    else []

abbrev pub completions : SpecifiedProps → List Found → List Next
completions desired found = flat_map (λ f. questions_on (to_be_completed desired f)) found

-- ---- other traders

-- each proxy offer that matched, by number
abbrev pub proxy_calls : Local → List Found → List Step
proxy_calls l found = map (λ f wanted. proxy_step l wanted f.offer) found

-- each link, in the order of adding
abbrev pub link_calls : Local → List Found → List Step
link_calls l found = map
    (λ link wanted. link_step l wanted (list_any (λ f. is_ordinary f.offer) found) link) l.links

-- Steps are taken one after the other: each one asks its question, if it has one where so many offers are still wanted,
-- and each answer leaves as many fewer.
pub data TakesSteps : (wanted : Option ℕ) → List Step → List Next → List StepAnswer → Type 0 where
  no_step_left : (wanted : Option ℕ) → TakesSteps wanted [] [] []
  left_out : (wanted : Option ℕ) (step : Step) (steps : List Step) (qs : List Next)
      (answers : List StepAnswer)
      → step wanted ≡ None → TakesSteps wanted steps qs answers
      → TakesSteps wanted (step ∷ steps) qs answers
  called : (wanted : Option ℕ) (step : Step) (steps : List Step) (qs : List Next)
      (answers : List StepAnswer) (q : Next) (a : StepAnswer) → step wanted ≡ Some q
      → TakesSteps (less wanted (sub_answer a)) steps qs answers
      → TakesSteps wanted (step ∷ steps) (q ∷ qs) (a ∷ answers)

-- ---- the search

-- The candidates' evaluations stand in front, then those of the offers that matched, then one call for each proxy offer
-- and for each link that is asked while offers are wanted. At first as many are wanted as the ordinary offers that
-- matched leave.
pub record QuestionsAreOrdered (l : Local) (questions : List Next) (answers : List StepAnswer) :
    Type 0 where
  pub found : List Found
  pub trials : List Next
  pub first : List StepAnswer
  pub later : List StepAnswer
  pub candidates : Tries l 0 l.candidates trials first found
  pub others : List Next
  pub given : List StepAnswer
  pub calls : TakesSteps (wanted_behind l (count_ordinary found))
      (proxy_calls l found ++ link_calls l found) others given
  pub all : questions ≡ trials ++ (completions l.query.desired found ++ others)
  pub answered : answers ≡ first ++ (later ++ given)

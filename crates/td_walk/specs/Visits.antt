-- The questions of one visit of a query, and in which order they are asked (OMG's Trading Object Service, interface
-- Lookup, query, "Policies" and "Link Follow Behavior").
use Rattle.std.specs.Prelude.{ℕ, ◌-◌, nat_le, Bool, false, if◌then◌else◌, List, [], ◌∷◌, ◌++◌, length, map}
use Rattle.std.specs.Prelude.{Option}
use Rattle.std.specs.Prelude.{None}
use Rattle.std.specs.Prelude.{Some, Result, Ok, Err, is_none}
use Rattle.std.specs.List.{count_by, list_any}
use Rattle.td_cdr.specs.Format.{◌>>=◌}
use Rattle.td_eval.specs.Mentioning.{Names, names_asked}
use Rattle.td_eval.specs.Values.{matches_constraint}
use Rattle.td_store.specs.declared.local.Local.{Local}
use Rattle.td_store.specs.declared.record.LinkRecord.{LinkRecord}
use Rattle.td_store.specs.declared.record.OfferRecord.{OfferRecord}
use Rattle.td_store.specs.declared.record.ProxyPart.{ProxyPart}
use Rattle.td_value.specs.declared.structures.DynamicProp.{DynamicProp}
use Rattle.td_value.specs.declared.structures.Property.{Property}
use Rattle.td_value.specs.declared.unions.SpecifiedProps.{SpecifiedProps}
use Rattle.td_value.specs.declared.unions.SpecifiedProps.TheVariants as props
use Rattle.td_walk.specs.Resolving.{dynamic_named, is_evaluated, resolved, value_from}
use Rattle.td_walk.specs.SubQueries.{path_query, link_step, proxy_step, wanted_behind}
use Rattle.td_walk.specs.declared.answer.Next.{Next}
use Rattle.td_walk.specs.declared.answer.Next.TheVariants.{Done, Evaluate, Forward}
use Rattle.td_walk.specs.declared.answer.StepAnswer.{StepAnswer}
use Rattle.td_walk.specs.declared.answer.StepAnswer.TheVariants as answer
use Rattle.td_walk.specs.declared.answer.SubAnswer.{SubAnswer}
use Rattle.td_walk.specs.declared.evaluation.Evaluation.{Evaluation}
use Rattle.td_walk.specs.declared.found.Found.{Found}
use Rattle.td_walk.specs.declared.gathering.Gathered.{Gathered}

-- What comes of the answers, with those that are left; or the question to which there is no answer yet.
abbrev pub AnswersRead : Type 0 → Type 0
AnswersRead X = Result (X × List StepAnswer) Next

abbrev pub ask : Next → List StepAnswer → AnswersRead StepAnswer
ask question [] = Err question
ask question (a ∷ answers) = Ok (a, answers)

-- ---- evaluations of an offer

abbrev pub question_on : (name : List ℕ) → DynamicProp → Next
question_on name d = Evaluate d.eval_if name d.returned_type d.extra_info

abbrev pub evaluation : (name : List ℕ) → DynamicProp → StepAnswer → Evaluation
evaluation name d a = record { name = name; value = value_from d a }

-- a dynamic property is evaluated
abbrev pub evaluated_property : List Evaluation → (name : List ℕ) → Option DynamicProp
    → List StepAnswer → AnswersRead (List Evaluation)
evaluated_property made name None answers = Ok (made, answers)
evaluated_property made name (Some d) answers =
    ask (question_on name d) answers >>= λ r. Ok (made ++ evaluation name d r.0 ∷ [], r.1)

-- and no name twice
abbrev pub evaluated_name : List Property → List Evaluation → (name : List ℕ) → List StepAnswer →
    AnswersRead (List Evaluation)
evaluated_name properties made name answers =
    if is_evaluated made name then Ok (made, answers)
    else evaluated_property made name (dynamic_named properties name) answers

-- the dynamic properties of these names, in this order, behind those that were made
abbrev pub evaluate_names : List Property → List Evaluation → Names → List StepAnswer
    → AnswersRead (List Evaluation)
evaluate_names properties made [] answers = Ok (made, answers)
evaluate_names properties made (name ∷ names) answers =
    evaluated_name properties made name answers >>= λ r. evaluate_names properties r.0 names r.1

-- ---- candidates

abbrev pub matches_all : Option ProxyPart → Bool
matches_all None = false
matches_all (Some part) = part.if_match_all

-- the offer, where the constraint holds of what its evaluations made of its properties
abbrev pub if_matching : Local → OfferRecord → List Evaluation → List Found
if_matching l o made =
    if matches_constraint (resolved made o.properties) l.constraint
    then record { offer = o; made = made }
    ∷ [] else []

-- what the constraint mentions is evaluated, and then what the preference does; a proxy offer with if_match_all matches
-- without
abbrev pub try_candidate : Local → OfferRecord → List StepAnswer → AnswersRead (List Found)
try_candidate l o answers =
    if matches_all o.proxy then Ok (record { offer = o; made = [] } ∷ [], answers)
    else evaluate_names o.properties [] (names_asked l.constraint l.preference) answers
    >>= λ r. Ok (if_matching l o r.0, r.1)

-- candidates in order, behind those that were found, until so many have matched
abbrev pub search_candidates : Local → List OfferRecord → List Found → List StepAnswer
    → AnswersRead (List Found)
search_candidates l [] found answers = Ok (found, answers)
search_candidates l (o ∷ os) found answers =
    if nat_le l.effective.match_card (length found) then Ok (found, answers)
    else try_candidate l o answers >>= λ r. search_candidates l os (found ++ r.0) r.1

-- ---- desired properties

abbrev pub desired_names : SpecifiedProps → List Property → Names
desired_names props.None properties = []
desired_names (props.Some names) properties = names
desired_names props.All properties = map (λ p. p.name) properties

abbrev pub is_ordinary : OfferRecord → Bool
is_ordinary o = is_none o.proxy

-- of an ordinary offer the desired dynamic properties are evaluated that aren't yet
abbrev pub complete_offer : SpecifiedProps → OfferRecord → List Evaluation → List StepAnswer
    → AnswersRead (List Evaluation)
complete_offer desired o made answers =
    if is_ordinary o then evaluate_names o.properties made (desired_names desired o.properties)
    answers
    else Ok (made, answers)

-- one after the other, behind those that are done
abbrev pub all_completed : SpecifiedProps → (before : List Found) → List Found → List StepAnswer
    → AnswersRead (List Found)
all_completed desired before [] answers = Ok (before, answers)
all_completed desired before (f ∷ fs) answers =
    complete_offer desired f.offer f.made answers
    >>= λ r. all_completed desired (before ++ record { offer = f.offer; made = r.0 } ∷ []) fs r.1

-- ---- other traders

-- what an answer gives: nothing, where it failed
abbrev pub sub_answer : StepAnswer → SubAnswer
sub_answer (answer.Offers a) = a
sub_answer other = record { offers = []; limits = [] }

-- another trader's question, if there is one where so many offers are still wanted
abbrev pub Step : Type 0
Step = (wanted : Option ℕ) → Option Next

-- how many are still wanted behind an answer
abbrev pub less : (wanted : Option ℕ) → SubAnswer → Option ℕ
less None a = None
less (Some n) a = Some (n - length a.offers)

-- one step, and then the next ones
abbrev pub take_step : Option Next → (asked : SubAnswer → List StepAnswer
    → AnswersRead (List SubAnswer))
    → (skipped : List StepAnswer → AnswersRead (List SubAnswer)) → List StepAnswer
    → AnswersRead (List SubAnswer)
take_step None asked skipped answers = skipped answers
take_step (Some question) asked skipped answers =
    ask question answers
    >>= λ r. asked (sub_answer r.0) r.1
    >>= λ s. Ok (sub_answer r.0 ∷ s.0, s.1)

-- the other traders are asked in order, as long as offers are wanted, and each gives its answer
abbrev pub forward_steps : (wanted : Option ℕ) → List Step → List StepAnswer
    → AnswersRead (List SubAnswer)
forward_steps wanted [] answers = Ok ([], answers)
forward_steps wanted (step ∷ steps) answers =
    take_step (step wanted) (λ a. forward_steps (less wanted a) steps) (forward_steps wanted steps)
    answers

-- matched proxy offers by number, and then links in the order of adding
unfoldable pub steps : Local → List Found → List Step
steps l found =
    map (λ f wanted. proxy_step l wanted f.offer) found
    ++ map (λ link wanted. link_step l wanted (list_any (λ f. is_ordinary f.offer) found) link)
    l.links

-- how many ordinary offers matched
abbrev pub count_ordinary : List Found → ℕ
count_ordinary found = count_by (λ f. is_ordinary f.offer) found

-- ---- the visit

-- what a visit comes to before it is ranked: the offers that matched, and the answers of others
abbrev pub gathered_offers : List Found → List StepAnswer → (wanted : Option ℕ) → List Step
    → AnswersRead Gathered
gathered_offers found answers wanted steps =
    forward_steps wanted steps answers >>= λ r. Ok (record { found = found; given = r.0 }, r.1)

-- along a path the one trader is asked, however many offers are wanted
abbrev pub path_step : Local → LinkRecord → Step
path_step l link wanted = Some (Forward link.target (path_query l))

abbrev pub along : Local → LinkRecord → List StepAnswer → AnswersRead Gathered
along l link answers = gathered_offers [] answers None (path_step l link ∷ [])

-- once the candidates were searched
abbrev pub after_search : Local → (found : List Found) → List StepAnswer → AnswersRead Gathered
after_search l found answers =
    all_completed l.query.desired [] found answers
    >>= λ r. gathered_offers r.0 r.1 (wanted_behind l (count_ordinary r.0)) (steps l r.0)

abbrev pub search_of : Local → List StepAnswer → AnswersRead Gathered
search_of l answers = search_candidates l l.candidates [] answers >>= λ r. after_search l r.0 r.1

abbrev pub visit_by : Option LinkRecord → Local → List StepAnswer → AnswersRead Gathered
visit_by None l answers = search_of l answers
visit_by (Some link) l answers = along l link answers

unfoldable pub visit_of : Local → List StepAnswer → AnswersRead Gathered
visit_of l answers = visit_by l.path l answers

abbrev pub question_of : {X : Type 0} → AnswersRead X → Next
question_of (Ok r) = Done
question_of (Err question) = question

-- the question that comes after these answers
unfoldable pub next_of : Local → List StepAnswer → Next
next_of l answers = question_of (visit_of l answers)

-- What a visit comes to from the answers of its steps: offers with bounds, where those answers have them and the offers
-- that are searched are within their limits.
use Rattle.std.proofs.Common.{◌≡◌, ℕ, zero, suc, ◌≤◌, Bool, true, false, cond, nat_le, ◌&&◌, List, [], ◌∷◌, ◌++◌}
use Rattle.std.proofs.Common.{length, take, filter, Option, Some, None, Ok, Err, is_some, refl, sym, subst, arith}
use Rattle.std.proofs.lemmas.Bool.{and_parts}
use Rattle.std.proofs.lemmas.List.Elements.{All-from_recursion, recursion_from_All}
use Rattle.std.proofs.lemmas.List.Sorted.{All-permutation}
use Rattle.std.specs.List.{AllByRecursion, flat_map}
use Rattle.std.specs.List.Sorted.{IsPermutation}
use Rattle.td_cdr.specs.declared.order.Order.TheVariants.{Big}
use Rattle.td_cdr.specs.Format.{◌>>=◌}
use Rattle.td_typecode.specs.Same.{same}
use Rattle.td_typecode.specs.Values.{any_value}
use Rattle.td_typecode.specs.declared.code.Any.{Any}
use Rattle.td_eval.proofs.Arranged.{same_offers}
use Rattle.td_eval.specs.Mentioning.{Names, names_asked}
use Rattle.td_eval.specs.Values.{matches_constraint}
use Rattle.td_ior.specs.Profiles.{iiop_of}
use Rattle.td_store.specs.declared.local.Local.{Local}
use Rattle.td_store.specs.declared.record.LinkRecord.{LinkRecord}
use Rattle.td_store.specs.declared.record.OfferRecord.{OfferRecord}
use Rattle.td_trader.specs.OfferLimits.{IsWithinLimits}
use Rattle.td_types.proofs.Sequences.{each-append, each-filter, each-flat, each-map}
use Rattle.td_value.specs.declared.structures.DynamicProp.{DynamicProp}
use Rattle.td_value.specs.declared.structures.Offer.{Offer}
use Rattle.td_value.specs.declared.structures.Property.{Property}
use Rattle.td_value.specs.declared.unions.SpecifiedProps.{SpecifiedProps}
use Rattle.td_walk.specs.Answers.{AnswersGathered, IsAnswer, IsRankedAnswer, joined_offers, offer_of, own_offers}
use Rattle.td_walk.specs.Resolving.{dynamic_named, is_evaluated, longest_value, may_stand, resolved, value_from}
use Rattle.td_walk.specs.SubQueries.{wanted_behind}
use Rattle.td_walk.specs.Visits.{AnswersRead, all_completed, ask, complete_offer, after_search, desired_names}
use Rattle.td_walk.specs.Visits.{evaluate_names}
use Rattle.td_walk.specs.Visits.{evaluated_name, evaluated_property, evaluation, forward_steps, gathered_offers}
use Rattle.td_walk.specs.Visits.{if_matching}
use Rattle.td_walk.specs.Visits.{is_ordinary, matches_all, question_on, search_candidates, steps, sub_answer}
use Rattle.td_walk.specs.Visits.{try_candidate}
use Rattle.td_walk.specs.Visits.{visit_by, visit_of, Step, count_ordinary, less, path_step, take_step}
use Rattle.td_walk.specs.declared.answer.Next.{Next}
use Rattle.td_walk.specs.declared.answer.StepAnswer.{StepAnswer}
use Rattle.td_walk.specs.declared.answer.StepAnswer.TheVariants as answer
use Rattle.td_walk.specs.declared.answer.SubAnswer.{SubAnswer}
use Rattle.td_walk.specs.declared.evaluation.Evaluation.{Evaluation}
use Rattle.td_walk.specs.declared.found.Found.{Found}
use Rattle.td_walk.specs.declared.gathering.Gathered.{Gathered}
use Rattle.td_size_laws.specs.Bounds.{IsBounded}
use Rattle.td_size_laws.proofs.Fitting.{AreShortEvaluations, IfThere, IsShortEvaluation, IsShortValue, found-bounded}

-- ---- what answers a visit, and what is found

abbrev pub AreBounded : List Offer → Type 0
AreBounded offers = AllByRecursion IsBounded offers

abbrev pub HasBounded : SubAnswer → Type 0
HasBounded a = AreBounded a.offers

abbrev pub IsBoundedStep : StepAnswer → Type 0
IsBoundedStep (answer.Evaluated v) = Unit {0}
IsBoundedStep (answer.Offers a) = HasBounded a
IsBoundedStep answer.Failed = Unit {0}

abbrev pub AreBoundedSteps : List StepAnswer → Type 0
AreBoundedSteps answers = AllByRecursion IsBoundedStep answers

-- an offer of a store within its limits, and what its evaluations gave
record IsLimitedFound (f : Found) : Type 0 where
  offer : IsWithinLimits f.offer
  made : AreShortEvaluations f.made

record IsBoundedGathering (g : Gathered) : Type 0 where
  found : AllByRecursion IsLimitedFound g.found
  given : AllByRecursion HasBounded g.given

-- ---- what is read from the answers, with those that are left

abbrev ReadsBounded : {X : Type 0} → (X → Type 0) → AnswersRead X → Type 0
ReadsBounded P (Ok r) = P r.0 × AreBoundedSteps r.1
ReadsBounded P (Err question) = Unit {0}

and-then : {X Y : Type 0} (P : X → Type 0) (Q : Y → Type 0) (r : AnswersRead X) (f : X × List StepAnswer → AnswersRead Y)
    → ReadsBounded P r
    → ((x : X) (rest : List StepAnswer) → P x → AreBoundedSteps rest → ReadsBounded Q (f (x, rest)))
    → ReadsBounded Q (r >>= f)
and-then P Q (Ok r) f h k = k r.0 r.1 h.0 h.1
and-then P Q (Err question) f h k = tt

either-read : {X : Type 0} (P : X → Type 0) (b : Bool) (x y : AnswersRead X) → ReadsBounded P x → ReadsBounded P y
    → ReadsBounded P (cond b x y)
either-read P true x y h k = h
either-read P false x y h k = k

asked-bounded : (question : Next) (answers : List StepAnswer) → AreBoundedSteps answers
    → ReadsBounded IsBoundedStep (ask question answers)
asked-bounded question [] h = tt
asked-bounded question (a ∷ answers) h = (h.0, h.1)

-- ---- evaluations

kept-when : (b : Bool) (v : Any) → (b ≡ true → IsShortValue v) → IfThere IsShortValue (cond b (Some v) None)
kept-when true v h = h refl
kept-when false v h = tt

may-be-short : (d : DynamicProp) (v : Any) → may_stand d v ≡ true → IsShortValue v
unfolding may_stand
may-be-short d v h =
    let e = (and_parts (same v.code d.returned_type) (nat_le (length (any_value.format.writes v Big 0)) longest_value) h).1
    in grind (arith, e)

value-bounded : (d : DynamicProp) (a : StepAnswer) → IfThere IsShortValue (value_from d a)
unfolding value_from
value-bounded d (answer.Evaluated v) =
    kept-when (is_some (iiop_of d.eval_if) && may_stand d v) v
    (λ both. may-be-short d v (and_parts (is_some (iiop_of d.eval_if)) (may_stand d v) both).1)
value-bounded d (answer.Offers a) = tt
value-bounded d answer.Failed = tt

property-bounded : (made : List Evaluation) (name : List ℕ) (o : Option DynamicProp) (answers : List StepAnswer)
    → AreShortEvaluations made → AreBoundedSteps answers
    → ReadsBounded AreShortEvaluations (evaluated_property made name o answers)
property-bounded made name None answers h k = (h, k)
property-bounded made name (Some d) answers h k =
    and-then IsBoundedStep AreShortEvaluations (ask (question_on name d) answers)
    (λ r. Ok (made ++ evaluation name d r.0 ∷ [], r.1)) (asked-bounded (question_on name d) answers k)
    (λ a rest p left. (
      each-append IsShortEvaluation made (evaluation name d a ∷ []) h (value-bounded d a, tt),
      left,
    ))

name-bounded : (properties : List Property) (made : List Evaluation) (name : List ℕ) (answers : List StepAnswer)
    → AreShortEvaluations made → AreBoundedSteps answers
    → ReadsBounded AreShortEvaluations (evaluated_name properties made name answers)
name-bounded properties made name answers h k =
    either-read AreShortEvaluations (is_evaluated made name) (Ok (made, answers))
    (evaluated_property made name (dynamic_named properties name) answers) (h, k)
    (property-bounded made name (dynamic_named properties name) answers h k)

evaluated-bounded : (properties : List Property) (made : List Evaluation) (names : Names) (answers : List StepAnswer)
    → AreShortEvaluations made → AreBoundedSteps answers
    → ReadsBounded AreShortEvaluations (evaluate_names properties made names answers)
evaluated-bounded properties made [] answers h k = (h, k)
evaluated-bounded properties made (name ∷ names) answers h k =
    and-then AreShortEvaluations AreShortEvaluations (evaluated_name properties made name answers)
    (λ r. evaluate_names properties r.0 names r.1) (name-bounded properties made name answers h k)
    (λ more rest p left. evaluated-bounded properties more names rest p left)

-- ---- candidates

abbrev AreLimited : List Found → Type 0
AreLimited found = AllByRecursion IsLimitedFound found

one : (o : OfferRecord) (made : List Evaluation) → IsWithinLimits o → AreShortEvaluations made
    → AreLimited (record { offer = o; made = made } ∷ [])
one o made h k = (record { offer = h; made = k }, tt)

one-when : (b : Bool) (f : Found) → AreLimited (f ∷ []) → AreLimited (cond b (f ∷ []) [])
one-when true f h = h
one-when false f h = tt

tried-bounded : (l : Local) (o : OfferRecord) (answers : List StepAnswer) → IsWithinLimits o → AreBoundedSteps answers
    → ReadsBounded AreLimited (try_candidate l o answers)
tried-bounded l o answers h k =
    let names = names_asked l.constraint l.preference in
    either-read AreLimited (matches_all o.proxy) (Ok (record { offer = o; made = [] } ∷ [], answers))
    (evaluate_names o.properties [] names answers >>= λ r. Ok (if_matching l o r.0, r.1)) (one o [] h tt, k)
    (and-then AreShortEvaluations AreLimited (evaluate_names o.properties [] names answers)
    (λ r. Ok (if_matching l o r.0, r.1)) (evaluated-bounded o.properties [] names answers tt k)
    (λ made rest p left. (
      one-when (matches_constraint (resolved made o.properties) l.constraint) (record { offer = o; made = made })
          (one o made h p),
      left,
    )))

searched-bounded : (l : Local) (os : List OfferRecord) (found : List Found) (answers : List StepAnswer)
    → AllByRecursion IsWithinLimits os → AreLimited found → AreBoundedSteps answers
    → ReadsBounded AreLimited (search_candidates l os found answers)
searched-bounded l [] found answers h f k = (f, k)
searched-bounded l (o ∷ os) found answers h f k =
    either-read AreLimited (nat_le l.effective.match_card (length found)) (Ok (found, answers))
    (try_candidate l o answers >>= λ r. search_candidates l os (found ++ r.0) r.1) (f, k)
    (and-then AreLimited AreLimited (try_candidate l o answers) (λ r. search_candidates l os (found ++ r.0) r.1)
    (tried-bounded l o answers h.0 k)
    (λ more rest p left. searched-bounded l os (found ++ more) rest h.1
    (each-append IsLimitedFound found more f p) left))

-- ---- desired properties

completed-bounded : (desired : SpecifiedProps) (f : Found) (answers : List StepAnswer) → IsLimitedFound f
    → AreBoundedSteps answers → ReadsBounded AreShortEvaluations (complete_offer desired f.offer f.made answers)
completed-bounded desired f answers h k =
    let names = desired_names desired f.offer.properties in
    either-read AreShortEvaluations (is_ordinary f.offer) (evaluate_names f.offer.properties f.made names answers)
    (Ok (f.made, answers)) (evaluated-bounded f.offer.properties f.made names answers h.made k) (h.made, k)

all-completed : (desired : SpecifiedProps) (before fs : List Found) (answers : List StepAnswer) → AreLimited before
    → AreLimited fs → AreBoundedSteps answers
    → ReadsBounded AreLimited (all_completed desired before fs answers)
all-completed desired before [] answers b h k = (b, k)
all-completed desired before (f ∷ fs) answers b h k =
    and-then AreShortEvaluations AreLimited (complete_offer desired f.offer f.made answers)
    (λ r. all_completed desired (before ++ record { offer = f.offer; made = r.0 } ∷ []) fs r.1)
    (completed-bounded desired f answers h.0 k)
    (λ made rest p left. all-completed desired (before ++ record { offer = f.offer; made = made } ∷ []) fs rest
    (each-append IsLimitedFound before (record { offer = f.offer; made = made } ∷ []) b (one f.offer made h.0.offer p))
    h.1 left)

-- ---- other traders

given-bounded : (a : StepAnswer) → IsBoundedStep a → HasBounded (sub_answer a)
given-bounded (answer.Evaluated v) h = tt
given-bounded (answer.Offers a) h = h
given-bounded answer.Failed h = tt

abbrev AreGiven : List SubAnswer → Type 0
AreGiven given = AllByRecursion HasBounded given

forwarded-bounded : (wanted : Option ℕ) (ss : List Step) (answers : List StepAnswer) → AreBoundedSteps answers
    → ReadsBounded AreGiven (forward_steps wanted ss answers)
forwarded-bounded wanted [] answers k = (tt, k)
forwarded-bounded wanted (step ∷ ss) answers k =
    by_step (forwarded-bounded wanted ss answers k) (λ a rest left. forwarded-bounded (less wanted a) ss rest left)
    (step wanted)
  where
    by_step : ReadsBounded AreGiven (forward_steps wanted ss answers)
        → ((a : SubAnswer) (rest : List StepAnswer) → AreBoundedSteps rest
        → ReadsBounded AreGiven (forward_steps (less wanted a) ss rest))
        → (o : Option Next)
        → ReadsBounded AreGiven (take_step o (λ a. forward_steps (less wanted a) ss) (forward_steps wanted ss) answers)
    by_step skipped asked None = skipped
    by_step skipped asked (Some question) =
        and-then IsBoundedStep AreGiven (ask question answers)
        (λ r. forward_steps (less wanted (sub_answer r.0)) ss r.1 >>= λ s. Ok (sub_answer r.0 ∷ s.0, s.1))
        (asked-bounded question answers k)
        (λ a rest p left. and-then AreGiven AreGiven (forward_steps (less wanted (sub_answer a)) ss rest)
        (λ s. Ok (sub_answer a ∷ s.0, s.1)) (asked (sub_answer a) rest left)
        (λ given last g end. ((given-bounded a p, g), end)))

-- ---- the visit

gathered-bounded : (found : List Found) (answers : List StepAnswer) (wanted : Option ℕ) (ss : List Step)
    → AreLimited found → AreBoundedSteps answers
    → ReadsBounded IsBoundedGathering (gathered_offers found answers wanted ss)
gathered-bounded found answers wanted ss f k =
    and-then AreGiven IsBoundedGathering (forward_steps wanted ss answers)
    (λ r. Ok (record { found = found; given = r.0 }, r.1)) (forwarded-bounded wanted ss answers k)
    (λ given rest g left. (record { found = f; given = g }, left))

completing-bounded : (l : Local) (found : List Found) (answers : List StepAnswer) → AreLimited found
    → AreBoundedSteps answers → ReadsBounded IsBoundedGathering (after_search l found answers)
completing-bounded l found answers f k =
    and-then AreLimited IsBoundedGathering (all_completed l.query.desired [] found answers)
    (λ r. gathered_offers r.0 r.1 (wanted_behind l (count_ordinary r.0)) (steps l r.0))
    (all-completed l.query.desired [] found answers tt f k)
    (λ all rest p left. gathered-bounded all rest (wanted_behind l (count_ordinary all)) (steps l all) p left)

visit-by : (path : Option LinkRecord) (l : Local) (answers : List StepAnswer) → AllByRecursion IsWithinLimits l.candidates
    → AreBoundedSteps answers → ReadsBounded IsBoundedGathering (visit_by path l answers)
visit-by None l answers h k =
    and-then AreLimited IsBoundedGathering (search_candidates l l.candidates [] answers) (λ r. after_search l r.0 r.1)
    (searched-bounded l l.candidates [] answers h tt k)
    (λ found rest p left. completing-bounded l found rest p left)
visit-by (Some link) l answers h k = gathered-bounded [] answers None (path_step l link ∷ []) tt k

visit-bounded : (l : Local) (answers : List StepAnswer) → AllByRecursion IsWithinLimits l.candidates → AreBoundedSteps answers
    → ReadsBounded IsBoundedGathering (visit_of l answers)
unfolding visit_of
visit-bounded l answers h k = visit-by l.path l answers h k

-- ---- its answer

pub each-front : {X : Type 0} (P : X → Type 0) (n : ℕ) (xs : List X) → AllByRecursion P xs → AllByRecursion P (take n xs)
each-front P zero xs h = tt
each-front P (suc n) [] h = tt
each-front P (suc n) (x ∷ xs) h = (h.0, each-front P n xs h.1)

each-permuted : {X : Type 0} (P : X → Type 0) (xs ys : List X) → IsPermutation xs ys → AllByRecursion P xs
    → AllByRecursion P ys
each-permuted P xs ys moved h =
    recursion_from_All P ys (All-permutation P xs ys moved (All-from_recursion P xs h))

own-bounded : (found : List Found) → AllByRecursion IsLimitedFound found → AreBounded (own_offers found)
own-bounded found h =
    each-map IsLimitedFound IsBounded offer_of (filter (λ f. is_ordinary f.offer) found)
    (λ f k. found-bounded f k.offer k.made)
    (each-filter IsLimitedFound (λ f. is_ordinary f.offer) found h)

joined-bounded : (g : Gathered) → IsBoundedGathering g → AreBounded (joined_offers g)
joined-bounded g h =
    each-append IsBounded (own_offers g.found) (flat_map (λ a. a.offers) g.given) (own-bounded g.found h.found)
    (each-flat HasBounded IsBounded (λ a. a.offers) g.given (λ a k. k) h.given)

cut-bounded : (l : Local) (g : Gathered) (word : ℕ → ℕ) (a : SubAnswer) → IsBoundedGathering g
    → IsRankedAnswer l g word a → HasBounded a
cut-bounded l g word a h is =
    subst AreBounded (sym is.cut) (each-front IsBounded l.effective.return_card is.ranked
    (each-permuted IsBounded (joined_offers g) is.ranked
    (same_offers l.preference word (joined_offers g) is.ranked is.in_order) (joined-bounded g h)))

gathering-bounded : (l : Local) (r : AnswersRead Gathered) (word : ℕ → ℕ) (a : SubAnswer)
    → ReadsBounded IsBoundedGathering r → AnswersGathered l r word a → HasBounded a
gathering-bounded l (Ok r) word a g is = cut-bounded l r.0 word a g.0 is
gathering-bounded l (Err question) word a g is = absurd is

-- what the visit answers has bounds, where what it was answered had
pub answer-bounded : (l : Local) (answers : List StepAnswer) (word : ℕ → ℕ) (a : SubAnswer)
    → AllByRecursion IsWithinLimits l.candidates → AreBoundedSteps answers → IsAnswer l answers word a → HasBounded a
unfolding IsAnswer
answer-bounded l answers word a h k is =
    gathering-bounded l (visit_of l answers) word a (visit-bounded l answers h k) is

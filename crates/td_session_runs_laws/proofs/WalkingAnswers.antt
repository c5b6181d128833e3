-- What a visit comes to from the answers of its steps: offers that can be written, where those answers and the store
-- that is searched can be.
use Rattle.std.proofs.Common.{◌≡◌, ℕ, ◌^◌, ◌<◌, Bool, true, false, cond, nat_le, ◌&&◌, List, [], ◌∷◌, ◌++◌}
use Rattle.std.proofs.Common.{length, take, Option, Some, None, Ok, Err, is_some, sym, subst}
use Rattle.std.specs.List.{AllByRecursion}
use Rattle.td_cdr.specs.Format.{◌>>=◌}
use Rattle.td_cdr.specs.Sound.{sequence}
use Rattle.td_typecode.specs.Values.{any_value}
use Rattle.td_typecode.specs.declared.code.Any.{Any}
use Rattle.td_eval.specs.Mentioning.{Names, names_asked}
use Rattle.td_eval.specs.Values.{matches_constraint}
use Rattle.td_ior.specs.Profiles.{iiop_of}
use Rattle.td_store.specs.Stores.{IsOffer}
use Rattle.td_store.specs.declared.local.Local.{Local}
use Rattle.td_store.specs.declared.record.LinkRecord.{LinkRecord}
use Rattle.td_store.specs.declared.record.OfferRecord.{OfferRecord}
use Rattle.td_types.proofs.Sequences.{each-append}
use Rattle.td_value.specs.Structures.{offer}
use Rattle.td_value.specs.declared.structures.DynamicProp.{DynamicProp}
use Rattle.td_value.specs.declared.structures.Offer.{Offer}
use Rattle.td_value.specs.declared.structures.Property.{Property}
use Rattle.td_value.specs.declared.unions.SpecifiedProps.{SpecifiedProps}
use Rattle.td_walk.specs.Answers.{AnswersGathered, IsAnswer, joined_offers}
use Rattle.td_walk.specs.Resolving.{dynamic_named, is_evaluated, may_stand, resolved, value_from}
use Rattle.td_walk.specs.SubQueries.{wanted_behind}
use Rattle.td_walk.specs.Visits.{AnswersRead, all_completed, ask, complete_offer, after_search, desired_names}
use Rattle.td_walk.specs.Visits.{evaluate_names}
use Rattle.td_walk.specs.Visits.{evaluated_name, evaluated_property, evaluation, forward_steps, gathered_offers}
use Rattle.td_walk.specs.Visits.{if_matching}
use Rattle.td_walk.specs.Visits.{is_ordinary, matches_all, question_on, search_candidates, steps, sub_answer}
use Rattle.td_walk.specs.Visits.{try_candidate}
use Rattle.td_walk.specs.Visits.{visit_by, visit_of, Step, count_ordinary, less, path_step, take_step}
use Rattle.td_walk.specs.declared.answer.Next.{Next}
use Rattle.td_walk.specs.declared.answer.StepAnswer.{StepAnswer}
use Rattle.td_walk.specs.declared.answer.StepAnswer.TheVariants as answer
use Rattle.td_walk.specs.declared.answer.SubAnswer.{SubAnswer}
use Rattle.td_walk.specs.declared.evaluation.Evaluation.{Evaluation}
use Rattle.td_walk.specs.declared.found.Found.{Found}
use Rattle.td_walk.specs.declared.gathering.Gathered.{Gathered}
use Rattle.td_session_runs_laws.proofs.WalkingItems.{sequence-first}
use Rattle.td_session_runs_laws.proofs.WalkingOffers.{AreOffers, AreWritableEvaluations, IsWritableEvaluation}
use Rattle.td_session_runs_laws.proofs.WalkingOffers.{IsWritableFound}
use Rattle.td_session_runs_laws.proofs.WalkingOffers.{IsWritableGathering, IsWritableValue, joined-admitted}
use Rattle.td_session_runs_laws.proofs.WalkingOffers.{ranked-admitted}

-- ---- what is served, and what answers it

-- what a query is served with can be written, as far as it goes into the answer; nor are too many returned
pub record IsWritableLocal (l : Local) : Type 0 where
  pub candidates : AllByRecursion IsOffer l.candidates
  pub returned : l.effective.return_card < 2 ^ 32

abbrev pub IsWritableStep : StepAnswer → Type 0
IsWritableStep (answer.Evaluated v) = any_value.format.admits v
IsWritableStep (answer.Offers a) = AreOffers a
IsWritableStep answer.Failed = Unit {0}

abbrev pub AreWritableSteps : List StepAnswer → Type 0
AreWritableSteps answers = AllByRecursion IsWritableStep answers

-- ---- what is read from the answers, with those that are left

abbrev ReadsWritably : {X : Type 0} → (X → Type 0) → AnswersRead X → Type 0
ReadsWritably P (Ok r) = P r.0 × AreWritableSteps r.1
ReadsWritably P (Err question) = Unit {0}

and-then : {X Y : Type 0} (P : X → Type 0) (Q : Y → Type 0) (r : AnswersRead X) (f : X × List StepAnswer → AnswersRead Y)
    → ReadsWritably P r
    → ((x : X) (rest : List StepAnswer) → P x → AreWritableSteps rest → ReadsWritably Q (f (x, rest)))
    → ReadsWritably Q (r >>= f)
and-then P Q (Ok r) f h k = k r.0 r.1 h.0 h.1
and-then P Q (Err question) f h k = tt

either-read : {X : Type 0} (P : X → Type 0) (b : Bool) (x y : AnswersRead X) → ReadsWritably P x → ReadsWritably P y
    → ReadsWritably P (cond b x y)
either-read P true x y h k = h
either-read P false x y h k = k

asked-writes : (question : Next) (answers : List StepAnswer) → AreWritableSteps answers
    → ReadsWritably IsWritableStep (ask question answers)
asked-writes question [] h = tt
asked-writes question (a ∷ answers) h = (h.0, h.1)

-- ---- evaluations

kept-when : (b : Bool) (v : Any) → any_value.format.admits v → IsWritableValue (cond b (Some v) None)
kept-when true v h = h
kept-when false v h = tt

value-writes : (d : DynamicProp) (a : StepAnswer) → IsWritableStep a → IsWritableValue (value_from d a)
unfolding value_from
value-writes d (answer.Evaluated v) h = kept-when (is_some (iiop_of d.eval_if) && may_stand d v) v h
value-writes d (answer.Offers a) h = tt
value-writes d answer.Failed h = tt

property-writes : (made : List Evaluation) (name : List ℕ) (o : Option DynamicProp) (answers : List StepAnswer)
    → AreWritableEvaluations made → AreWritableSteps answers
    → ReadsWritably AreWritableEvaluations (evaluated_property made name o answers)
property-writes made name None answers h k = (h, k)
property-writes made name (Some d) answers h k =
    and-then IsWritableStep AreWritableEvaluations (ask (question_on name d) answers)
    (λ r. Ok (made ++ evaluation name d r.0 ∷ [], r.1)) (asked-writes (question_on name d) answers k)
    (λ a rest p left. (
      each-append IsWritableEvaluation made (evaluation name d a ∷ []) h (value-writes d a p, tt),
      left,
    ))

name-writes : (properties : List Property) (made : List Evaluation) (name : List ℕ) (answers : List StepAnswer)
    → AreWritableEvaluations made → AreWritableSteps answers
    → ReadsWritably AreWritableEvaluations (evaluated_name properties made name answers)
name-writes properties made name answers h k =
    either-read AreWritableEvaluations (is_evaluated made name) (Ok (made, answers))
    (evaluated_property made name (dynamic_named properties name) answers) (h, k)
    (property-writes made name (dynamic_named properties name) answers h k)

evaluated-writes : (properties : List Property) (made : List Evaluation) (names : Names) (answers : List StepAnswer)
    → AreWritableEvaluations made → AreWritableSteps answers
    → ReadsWritably AreWritableEvaluations (evaluate_names properties made names answers)
evaluated-writes properties made [] answers h k = (h, k)
evaluated-writes properties made (name ∷ names) answers h k =
    and-then AreWritableEvaluations AreWritableEvaluations (evaluated_name properties made name answers)
    (λ r. evaluate_names properties r.0 names r.1) (name-writes properties made name answers h k)
    (λ more rest p left. evaluated-writes properties more names rest p left)

-- ---- candidates

abbrev AreWritable : List Found → Type 0
AreWritable found = AllByRecursion IsWritableFound found

one : (o : OfferRecord) (made : List Evaluation) → IsOffer o → AreWritableEvaluations made
    → AreWritable (record { offer = o; made = made } ∷ [])
one o made h k = (record { offer = h; made = k }, tt)

one-when : (b : Bool) (f : Found) → AreWritable (f ∷ []) → AreWritable (cond b (f ∷ []) [])
one-when true f h = h
one-when false f h = tt

tried-writes : (l : Local) (o : OfferRecord) (answers : List StepAnswer) → IsOffer o → AreWritableSteps answers
    → ReadsWritably AreWritable (try_candidate l o answers)
tried-writes l o answers h k =
    let names = names_asked l.constraint l.preference in
    either-read AreWritable (matches_all o.proxy) (Ok (record { offer = o; made = [] } ∷ [], answers))
    (evaluate_names o.properties [] names answers >>= λ r. Ok (if_matching l o r.0, r.1)) (one o [] h tt, k)
    (and-then AreWritableEvaluations AreWritable (evaluate_names o.properties [] names answers)
    (λ r. Ok (if_matching l o r.0, r.1)) (evaluated-writes o.properties [] names answers tt k)
    (λ made rest p left. (
      one-when (matches_constraint (resolved made o.properties) l.constraint) (record { offer = o; made = made })
          (one o made h p),
      left,
    )))

searched-writes : (l : Local) (os : List OfferRecord) (found : List Found) (answers : List StepAnswer)
    → AllByRecursion IsOffer os → AreWritable found → AreWritableSteps answers
    → ReadsWritably AreWritable (search_candidates l os found answers)
searched-writes l [] found answers h f k = (f, k)
searched-writes l (o ∷ os) found answers h f k =
    either-read AreWritable (nat_le l.effective.match_card (length found)) (Ok (found, answers))
    (try_candidate l o answers >>= λ r. search_candidates l os (found ++ r.0) r.1) (f, k)
    (and-then AreWritable AreWritable (try_candidate l o answers) (λ r. search_candidates l os (found ++ r.0) r.1)
    (tried-writes l o answers h.0 k)
    (λ more rest p left. searched-writes l os (found ++ more) rest h.1
    (each-append IsWritableFound found more f p) left))

-- ---- desired properties

completed-writes : (desired : SpecifiedProps) (f : Found) (answers : List StepAnswer) → IsWritableFound f
    → AreWritableSteps answers → ReadsWritably AreWritableEvaluations (complete_offer desired f.offer f.made answers)
completed-writes desired f answers h k =
    let names = desired_names desired f.offer.properties in
    either-read AreWritableEvaluations (is_ordinary f.offer) (evaluate_names f.offer.properties f.made names answers)
    (Ok (f.made, answers)) (evaluated-writes f.offer.properties f.made names answers h.made k) (h.made, k)

all-completed : (desired : SpecifiedProps) (before fs : List Found) (answers : List StepAnswer) → AreWritable before
    → AreWritable fs → AreWritableSteps answers
    → ReadsWritably AreWritable (all_completed desired before fs answers)
all-completed desired before [] answers b h k = (b, k)
all-completed desired before (f ∷ fs) answers b h k =
    and-then AreWritableEvaluations AreWritable (complete_offer desired f.offer f.made answers)
    (λ r. all_completed desired (before ++ record { offer = f.offer; made = r.0 } ∷ []) fs r.1)
    (completed-writes desired f answers h.0 k)
    (λ made rest p left. all-completed desired (before ++ record { offer = f.offer; made = made } ∷ []) fs rest
    (each-append IsWritableFound before (record { offer = f.offer; made = made } ∷ []) b (one f.offer made h.0.offer p))
    h.1 left)

-- ---- other traders

given-writes : (a : StepAnswer) → IsWritableStep a → AreOffers (sub_answer a)
given-writes (answer.Evaluated v) h = tt
given-writes (answer.Offers a) h = h
given-writes answer.Failed h = tt

abbrev AreGiven : List SubAnswer → Type 0
AreGiven given = AllByRecursion AreOffers given

forwarded-writes : (wanted : Option ℕ) (ss : List Step) (answers : List StepAnswer) → AreWritableSteps answers
    → ReadsWritably AreGiven (forward_steps wanted ss answers)
forwarded-writes wanted [] answers k = (tt, k)
forwarded-writes wanted (step ∷ ss) answers k =
    by_step (forwarded-writes wanted ss answers k) (λ a rest left. forwarded-writes (less wanted a) ss rest left)
    (step wanted)
  where
    by_step : ReadsWritably AreGiven (forward_steps wanted ss answers)
        → ((a : SubAnswer) (rest : List StepAnswer) → AreWritableSteps rest
        → ReadsWritably AreGiven (forward_steps (less wanted a) ss rest))
        → (o : Option Next)
        → ReadsWritably AreGiven (take_step o (λ a. forward_steps (less wanted a) ss) (forward_steps wanted ss) answers)
    by_step skipped asked None = skipped
    by_step skipped asked (Some question) =
        and-then IsWritableStep AreGiven (ask question answers)
        (λ r. forward_steps (less wanted (sub_answer r.0)) ss r.1 >>= λ s. Ok (sub_answer r.0 ∷ s.0, s.1))
        (asked-writes question answers k)
        (λ a rest p left. and-then AreGiven AreGiven (forward_steps (less wanted (sub_answer a)) ss rest)
        (λ s. Ok (sub_answer a ∷ s.0, s.1)) (asked (sub_answer a) rest left)
        (λ given last g end. ((given-writes a p, g), end)))

-- ---- the visit

gathered-writes : (found : List Found) (answers : List StepAnswer) (wanted : Option ℕ) (ss : List Step)
    → AreWritable found → AreWritableSteps answers
    → ReadsWritably IsWritableGathering (gathered_offers found answers wanted ss)
gathered-writes found answers wanted ss f k =
    and-then AreGiven IsWritableGathering (forward_steps wanted ss answers)
    (λ r. Ok (record { found = found; given = r.0 }, r.1)) (forwarded-writes wanted ss answers k)
    (λ given rest g left. (record { found = f; given = g }, left))

completing-writes : (l : Local) (found : List Found) (answers : List StepAnswer) → AreWritable found
    → AreWritableSteps answers → ReadsWritably IsWritableGathering (after_search l found answers)
completing-writes l found answers f k =
    and-then AreWritable IsWritableGathering (all_completed l.query.desired [] found answers)
    (λ r. gathered_offers r.0 r.1 (wanted_behind l (count_ordinary r.0)) (steps l r.0))
    (all-completed l.query.desired [] found answers tt f k)
    (λ all rest p left. gathered-writes all rest (wanted_behind l (count_ordinary all)) (steps l all) p left)

visit-by : (path : Option LinkRecord) (l : Local) (answers : List StepAnswer) → IsWritableLocal l
    → AreWritableSteps answers → ReadsWritably IsWritableGathering (visit_by path l answers)
visit-by None l answers h k =
    and-then AreWritable IsWritableGathering (search_candidates l l.candidates [] answers) (λ r. after_search l r.0 r.1)
    (searched-writes l l.candidates [] answers h.candidates tt k)
    (λ found rest p left. completing-writes l found rest p left)
visit-by (Some link) l answers h k = gathered-writes [] answers None (path_step l link ∷ []) tt k

visit-writes : (l : Local) (answers : List StepAnswer) → IsWritableLocal l → AreWritableSteps answers
    → ReadsWritably IsWritableGathering (visit_of l answers)
unfolding visit_of
visit-writes l answers h k = visit-by l.path l answers h k

-- ---- its answer

cut-writes : (l : Local) (ranked offers : List Offer) → IsWritableLocal l → AllByRecursion offer.format.admits ranked
    → offers ≡ take l.effective.return_card ranked → (sequence offer).format.admits offers
cut-writes l ranked offers h k cut =
    subst (sequence offer).format.admits (sym cut) (sequence-first offer l.effective.return_card ranked h.returned k)

gathering-writes : (l : Local) (r : AnswersRead Gathered) (word : ℕ → ℕ) (a : SubAnswer) → IsWritableLocal l
    → ReadsWritably IsWritableGathering r → AnswersGathered l r word a → (sequence offer).format.admits a.offers
gathering-writes l (Ok r) word a h g is =
    cut-writes l is.ranked a.offers h
    (ranked-admitted l.preference word (joined_offers r.0) is.ranked is.in_order (joined-admitted r.0 g.0)) is.cut
gathering-writes l (Err question) word a h g is = absurd is

-- what the visit answers can be written, where what it was answered could be
pub answer-writes : (l : Local) (answers : List StepAnswer) (word : ℕ → ℕ) (a : SubAnswer) → IsWritableLocal l
    → AreWritableSteps answers → IsAnswer l answers word a → (sequence offer).format.admits a.offers
unfolding IsAnswer
answer-writes l answers word a h k is =
    gathering-writes l (visit_of l answers) word a h (visit-writes l answers h k) is

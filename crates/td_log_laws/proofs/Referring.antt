-- The offers of an answer have references that the offers searched have, or those of the answers to its questions.
use Rattle.std.proofs.Common.{ℕ, Bool, true, false, cond, nat_le, List, [], ◌∷◌, ◌++◌, length, filter, Option, Some}
use Rattle.std.proofs.Common.{None, Ok, Err, sym, subst}
use Rattle.std.specs.List.{AllByRecursion, flat_map}
use Rattle.td_cdr.specs.Format.{◌>>=◌}
use Rattle.td_typecode.specs.declared.reference.Ior.{Ior}
use Rattle.td_eval.proofs.Arranged.{same_offers}
use Rattle.td_eval.specs.Mentioning.{Names, names_asked}
use Rattle.td_eval.specs.Values.{matches_constraint}
use Rattle.td_store.specs.declared.local.Local.{Local}
use Rattle.td_store.specs.declared.record.LinkRecord.{LinkRecord}
use Rattle.td_store.specs.declared.record.OfferRecord.{OfferRecord}
use Rattle.td_session_runs_laws.proofs.Parts.{each-front}
use Rattle.td_session_runs_laws.proofs.WalkingItems.{each-permuted}
use Rattle.td_types.proofs.Sequences.{each-append, each-filter, each-flat, each-map}
use Rattle.td_value.specs.declared.structures.DynamicProp.{DynamicProp}
use Rattle.td_value.specs.declared.structures.Offer.{Offer}
use Rattle.td_value.specs.declared.structures.Property.{Property}
use Rattle.td_value.specs.declared.unions.SpecifiedProps.{SpecifiedProps}
use Rattle.td_walk.specs.Answers.{AnswersGathered, IsAnswer, IsRankedAnswer, joined_offers, offer_of, own_offers}
use Rattle.td_walk.specs.Resolving.{dynamic_named, is_evaluated, resolved}
use Rattle.td_walk.specs.SubQueries.{wanted_behind}
use Rattle.td_walk.specs.Visits.{AnswersRead, Step, all_completed, ask, complete_offer, after_search, count_ordinary}
use Rattle.td_walk.specs.Visits.{desired_names}
use Rattle.td_walk.specs.Visits.{evaluate_names, evaluated_name, evaluated_property, evaluation, forward_steps}
use Rattle.td_walk.specs.Visits.{gathered_offers}
use Rattle.td_walk.specs.Visits.{if_matching, is_ordinary, less, matches_all, path_step, question_on, search_candidates}
use Rattle.td_walk.specs.Visits.{take_step}
use Rattle.td_walk.specs.Visits.{steps, sub_answer, try_candidate, visit_by, visit_of}
use Rattle.td_walk.specs.declared.answer.Next.{Next}
use Rattle.td_walk.specs.declared.answer.StepAnswer.{StepAnswer}
use Rattle.td_walk.specs.declared.answer.StepAnswer.TheVariants as answer
use Rattle.td_walk.specs.declared.answer.SubAnswer.{SubAnswer}
use Rattle.td_walk.specs.declared.evaluation.Evaluation.{Evaluation}
use Rattle.td_walk.specs.declared.found.Found.{Found}
use Rattle.td_walk.specs.declared.gathering.Gathered.{Gathered}

module _ (P : Ior → Type 0) where
  -- ---- what answers a visit, and what is found

  abbrev pub Refers : SubAnswer → Type 0
  Refers a = AllByRecursion (λ (o : Offer). P o.reference) a.offers

  abbrev pub StepRefers : StepAnswer → Type 0
  StepRefers (answer.Evaluated v) = Unit {0}
  StepRefers (answer.Offers a) = Refers a
  StepRefers answer.Failed = Unit {0}

  abbrev AreSteps : List StepAnswer → Type 0
  AreSteps answers = AllByRecursion StepRefers answers

  abbrev AreFound : List Found → Type 0
  AreFound found = AllByRecursion (λ (f : Found). P f.offer.reference) found

  abbrev AreGiven : List SubAnswer → Type 0
  AreGiven given = AllByRecursion Refers given

  abbrev AreGathered : Gathered → Type 0
  AreGathered g = AreFound g.found × AreGiven g.given

  -- ---- what is read from the answers, with those that are left

  abbrev ReadsSo : {X : Type 0} → (X → Type 0) → AnswersRead X → Type 0
  ReadsSo Q (Ok r) = Q r.0 × AreSteps r.1
  ReadsSo Q (Err question) = Unit {0}

  and-then : {X Y : Type 0} (Q : X → Type 0) (R : Y → Type 0) (r : AnswersRead X) (f : X × List StepAnswer → AnswersRead Y)
      → ReadsSo Q r → ((x : X) (rest : List StepAnswer) → Q x → AreSteps rest → ReadsSo R (f (x, rest)))
      → ReadsSo R (r >>= f)
  and-then Q R (Ok r) f h k = k r.0 r.1 h.0 h.1
  and-then Q R (Err question) f h k = tt

  either-read : {X : Type 0} (Q : X → Type 0) (b : Bool) (x y : AnswersRead X) → ReadsSo Q x → ReadsSo Q y
      → ReadsSo Q (cond b x y)
  either-read Q true x y h k = h
  either-read Q false x y h k = k

  asked-refers : (question : Next) (answers : List StepAnswer) → AreSteps answers
      → ReadsSo StepRefers (ask question answers)
  asked-refers question [] h = tt
  asked-refers question (a ∷ answers) h = (h.0, h.1)

  -- ---- evaluations, which have no references

  abbrev Any : {X : Type 0} → X → Type 0
  Any x = Unit {0}

  property-refers : (made : List Evaluation) (name : List ℕ) (o : Option DynamicProp) (answers : List StepAnswer)
      → AreSteps answers → ReadsSo Any (evaluated_property made name o answers)
  property-refers made name None answers k = (tt, k)
  property-refers made name (Some d) answers k =
      and-then StepRefers Any (ask (question_on name d) answers) (λ r. Ok (made ++ evaluation name d r.0 ∷ [], r.1))
      (asked-refers (question_on name d) answers k) (λ a rest p left. (tt, left))

  evaluated-refers : (properties : List Property) (made : List Evaluation) (names : Names) (answers : List StepAnswer)
      → AreSteps answers → ReadsSo Any (evaluate_names properties made names answers)
  evaluated-refers properties made [] answers k = (tt, k)
  evaluated-refers properties made (name ∷ names) answers k =
      and-then Any Any (evaluated_name properties made name answers) (λ r. evaluate_names properties r.0 names r.1)
      (either-read Any (is_evaluated made name) (Ok (made, answers))
      (evaluated_property made name (dynamic_named properties name) answers) (tt, k)
      (property-refers made name (dynamic_named properties name) answers k))
      (λ more rest p left. evaluated-refers properties more names rest left)

  -- ---- candidates

  one-when : (b : Bool) (f : Found) → P f.offer.reference → AreFound (cond b (f ∷ []) [])
  one-when true f h = (h, tt)
  one-when false f h = tt

  tried-refers : (l : Local) (o : OfferRecord) (answers : List StepAnswer) → P o.reference → AreSteps answers
      → ReadsSo AreFound (try_candidate l o answers)
  tried-refers l o answers h k =
      let names = names_asked l.constraint l.preference in
      either-read AreFound (matches_all o.proxy) (Ok (record { offer = o; made = [] } ∷ [], answers))
      (evaluate_names o.properties [] names answers >>= λ r. Ok (if_matching l o r.0, r.1)) ((h, tt), k)
      (and-then Any AreFound (evaluate_names o.properties [] names answers) (λ r. Ok (if_matching l o r.0, r.1))
      (evaluated-refers o.properties [] names answers k)
      (λ made rest p left. (
        one-when (matches_constraint (resolved made o.properties) l.constraint) (record { offer = o; made = made }) h,
        left,
      )))

  searched-refers : (l : Local) (os : List OfferRecord) (found : List Found) (answers : List StepAnswer)
      → AllByRecursion (λ (o : OfferRecord). P o.reference) os → AreFound found → AreSteps answers
      → ReadsSo AreFound (search_candidates l os found answers)
  searched-refers l [] found answers h f k = (f, k)
  searched-refers l (o ∷ os) found answers h f k =
      either-read AreFound (nat_le l.effective.match_card (length found)) (Ok (found, answers))
      (try_candidate l o answers >>= λ r. search_candidates l os (found ++ r.0) r.1) (f, k)
      (and-then AreFound AreFound (try_candidate l o answers) (λ r. search_candidates l os (found ++ r.0) r.1)
      (tried-refers l o answers h.0 k)
      (λ more rest p left. searched-refers l os (found ++ more) rest h.1
      (each-append (λ (x : Found). P x.offer.reference) found more f p) left))

  completed-refers : (desired : SpecifiedProps) (f : Found) (answers : List StepAnswer) → AreSteps answers
      → ReadsSo Any (complete_offer desired f.offer f.made answers)
  completed-refers desired f answers k =
      let names = desired_names desired f.offer.properties in
      either-read Any (is_ordinary f.offer) (evaluate_names f.offer.properties f.made names answers) (Ok (f.made, answers))
      (evaluated-refers f.offer.properties f.made names answers k) (tt, k)

  all-refers : (desired : SpecifiedProps) (before fs : List Found) (answers : List StepAnswer) → AreFound before
      → AreFound fs → AreSteps answers → ReadsSo AreFound (all_completed desired before fs answers)
  all-refers desired before [] answers b h k = (b, k)
  all-refers desired before (f ∷ fs) answers b h k =
      and-then Any AreFound (complete_offer desired f.offer f.made answers)
      (λ r. all_completed desired (before ++ record { offer = f.offer; made = r.0 } ∷ []) fs r.1)
      (completed-refers desired f answers k)
      (λ made rest p left. all-refers desired (before ++ record { offer = f.offer; made = made } ∷ []) fs rest
      (each-append (λ (x : Found). P x.offer.reference) before (record { offer = f.offer; made = made } ∷ []) b
      (h.0, tt)) h.1 left)

  -- ---- other traders

  given-refers : (a : StepAnswer) → StepRefers a → Refers (sub_answer a)
  given-refers (answer.Evaluated v) h = tt
  given-refers (answer.Offers a) h = h
  given-refers answer.Failed h = tt

  forwarded-refers : (wanted : Option ℕ) (ss : List Step) (answers : List StepAnswer) → AreSteps answers
      → ReadsSo AreGiven (forward_steps wanted ss answers)
  forwarded-refers wanted [] answers k = (tt, k)
  forwarded-refers wanted (step ∷ ss) answers k =
      by_step (forwarded-refers wanted ss answers k) (λ a rest left. forwarded-refers (less wanted a) ss rest left)
      (step wanted)
    where
      by_step : ReadsSo AreGiven (forward_steps wanted ss answers)
          → ((a : SubAnswer) (rest : List StepAnswer) → AreSteps rest
          → ReadsSo AreGiven (forward_steps (less wanted a) ss rest))
          → (o : Option Next)
          → ReadsSo AreGiven (take_step o (λ a. forward_steps (less wanted a) ss) (forward_steps wanted ss) answers)
      by_step skipped asked None = skipped
      by_step skipped asked (Some question) =
          and-then StepRefers AreGiven (ask question answers)
          (λ r. forward_steps (less wanted (sub_answer r.0)) ss r.1 >>= λ s. Ok (sub_answer r.0 ∷ s.0, s.1))
          (asked-refers question answers k)
          (λ a rest p left. and-then AreGiven AreGiven (forward_steps (less wanted (sub_answer a)) ss rest)
          (λ s. Ok (sub_answer a ∷ s.0, s.1)) (asked (sub_answer a) rest left)
          (λ given last g end. ((given-refers a p, g), end)))

  -- ---- the visit

  gathered-refers : (found : List Found) (answers : List StepAnswer) (wanted : Option ℕ) (ss : List Step)
      → AreFound found → AreSteps answers → ReadsSo AreGathered (gathered_offers found answers wanted ss)
  gathered-refers found answers wanted ss f k =
      and-then AreGiven AreGathered (forward_steps wanted ss answers)
      (λ r. Ok (record { found = found; given = r.0 }, r.1)) (forwarded-refers wanted ss answers k)
      (λ given rest g left. ((f, g), left))

  completing-refers : (l : Local) (found : List Found) (answers : List StepAnswer) → AreFound found → AreSteps answers
      → ReadsSo AreGathered (after_search l found answers)
  completing-refers l found answers f k =
      and-then AreFound AreGathered (all_completed l.query.desired [] found answers)
      (λ r. gathered_offers r.0 r.1 (wanted_behind l (count_ordinary r.0)) (steps l r.0))
      (all-refers l.query.desired [] found answers tt f k)
      (λ all rest p left. gathered-refers all rest (wanted_behind l (count_ordinary all)) (steps l all) p left)

  visit-refers : (path : Option LinkRecord) (l : Local) (answers : List StepAnswer)
      → AllByRecursion (λ (o : OfferRecord). P o.reference) l.candidates → AreSteps answers
      → ReadsSo AreGathered (visit_by path l answers)
  visit-refers None l answers h k =
      and-then AreFound AreGathered (search_candidates l l.candidates [] answers) (λ r. after_search l r.0 r.1)
      (searched-refers l l.candidates [] answers h tt k)
      (λ found rest p left. completing-refers l found rest p left)
  visit-refers (Some link) l answers h k = gathered-refers [] answers None (path_step l link ∷ []) tt k

  -- ---- its answer

  own-refers : (found : List Found) → AreFound found → AllByRecursion (λ (o : Offer). P o.reference) (own_offers found)
  own-refers found h =
      each-map (λ (f : Found). P f.offer.reference) (λ (o : Offer). P o.reference) offer_of
      (filter (λ f. is_ordinary f.offer) found) (λ f k. k)
      (each-filter (λ (f : Found). P f.offer.reference) (λ f. is_ordinary f.offer) found h)

  joined-refers : (g : Gathered) → AreGathered g → AllByRecursion (λ (o : Offer). P o.reference) (joined_offers g)
  joined-refers g h =
      each-append (λ (o : Offer). P o.reference) (own_offers g.found) (flat_map (λ a. a.offers) g.given)
      (own-refers g.found h.0)
      (each-flat Refers (λ (o : Offer). P o.reference) (λ a. a.offers) g.given (λ a k. k) h.1)

  cut-refers : (l : Local) (g : Gathered) (word : ℕ → ℕ) (a : SubAnswer) → AreGathered g → IsRankedAnswer l g word a
      → Refers a
  cut-refers l g word a h is =
      subst (AllByRecursion (λ (o : Offer). P o.reference)) (sym is.cut)
      (each-front (λ (o : Offer). P o.reference) l.effective.return_card is.ranked
      (each-permuted (λ (o : Offer). P o.reference) (joined_offers g) is.ranked
      (same_offers l.preference word (joined_offers g) is.ranked is.in_order) (joined-refers g h)))

  gathering-refers : (l : Local) (r : AnswersRead Gathered) (word : ℕ → ℕ) (a : SubAnswer) → ReadsSo AreGathered r
      → AnswersGathered l r word a → Refers a
  gathering-refers l (Ok r) word a g is = cut-refers l r.0 word a g.0 is
  gathering-refers l (Err question) word a g is = absurd is

  pub answer-refers : (l : Local) (answers : List StepAnswer) (word : ℕ → ℕ) (a : SubAnswer)
      → AllByRecursion (λ (o : OfferRecord). P o.reference) l.candidates → AllByRecursion StepRefers answers
      → IsAnswer l answers word a → Refers a
  unfolding IsAnswer visit_of
  answer-refers l answers word a h k is =
      gathering-refers l (visit_of l answers) word a (visit-refers l.path l answers h k) is

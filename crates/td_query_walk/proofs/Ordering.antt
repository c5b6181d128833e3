-- The questions of a search stand in order.
use Rattle.std.proofs.Common.{◌≡◌, ℕ, suc, ◌+◌, ◌<◌, ◌≤◌, nat_le, Bool, true, false, ◌||◌, List, [], ◌∷◌, ◌++◌, length}
use Rattle.std.proofs.Common.{map, Option, Some, None, Ok, Err, refl, sym, ap, ◌∙◌, subst, append_assoc, append-nil}
use Rattle.std.proofs.Common.{if◌then◌else◌, cond, fold}
use Rattle.std.proofs.lemmas.Bool.{leb-false, leb-true}
use Rattle.std.proofs.lemmas.List.{length-append}
use Rattle.std.specs.List.{count_by, find, list_any}
use Rattle.std.specs.Prelude.{is_some}
use Rattle.std.specs.Str.{bytes_eq}
use Rattle.td_cdr.specs.Format.{◌>>=◌}
use Rattle.td_eval.specs.Mentioning.{Names, names_asked}
use Rattle.td_eval.specs.Values.{matches_constraint}
use Rattle.td_store.specs.declared.local.Local.{Local}
use Rattle.td_store.specs.declared.record.LinkRecord.{LinkRecord}
use Rattle.td_store.specs.declared.record.OfferRecord.{OfferRecord}
use Rattle.td_value.specs.declared.structures.DynamicProp.{DynamicProp}
use Rattle.td_value.specs.declared.structures.Property.{Property}
use Rattle.td_value.specs.declared.unions.SpecifiedProps.{SpecifiedProps}
use Rattle.td_walk.specs.Resolving.{dynamic_named, is_evaluated, resolved}
use Rattle.td_walk.specs.SubQueries.{link_step, path_query, proxy_step, wanted_behind}
use Rattle.td_walk.specs.Visits.{AnswersRead, all_completed, ask, complete_offer, after_search, desired_names}
use Rattle.td_walk.specs.Visits.{evaluate_names, evaluation}
use Rattle.td_walk.specs.Visits.{evaluated_property, forward_steps, gathered_offers, if_matching, is_ordinary}
use Rattle.td_walk.specs.Visits.{matches_all, next_of, question_of, question_on, search_of, search_candidates, steps}
use Rattle.td_walk.specs.Visits.{sub_answer}
use Rattle.td_walk.specs.Visits.{try_candidate, visit_by, visit_of, Step, count_ordinary, less, path_step, take_step}
use Rattle.td_walk.specs.declared.answer.Next.{Next}
use Rattle.td_walk.specs.declared.answer.Next.TheVariants.{Done, Forward}
use Rattle.td_walk.specs.declared.answer.StepAnswer.{StepAnswer}
use Rattle.td_walk.specs.declared.answer.SubAnswer.{SubAnswer}
use Rattle.td_walk.specs.declared.evaluation.Evaluation.{Evaluation}
use Rattle.td_walk.specs.declared.found.Found.{Found}
use Rattle.td_walk.specs.declared.gathering.Gathered.{Gathered}
use Rattle.td_query_walk.proofs.Questions.{never_done}
use Rattle.td_query_walk.proofs.Readings.{Reading, Stops, Takes, takes-none, takes-ask, takes-then, takes-map, Parted}
use Rattle.td_query_walk.proofs.Readings.{parted, is-read}
use Rattle.td_query_walk.specs.SearchOrder.{TakesSteps, called, left_out, no_step_left}
use Rattle.td_query_walk.specs.SearchOrder.{AsksInOrder, Dynamics, QuestionsAreOrdered, Tries, completions, dynamics}
use Rattle.td_query_walk.specs.SearchOrder.{enough, evaluations}
use Rattle.td_query_walk.specs.SearchOrder.{is_among, link_calls, matched_candidate, names_of, none_left, proxy_calls}
use Rattle.td_query_walk.specs.SearchOrder.{questions_on}
use Rattle.td_query_walk.specs.SearchOrder.{to_be_completed, to_be_tried, tries, with_dynamic}

-- ---- evaluations of one offer

-- what was evaluated is what is among the names
among-made : (made : List Evaluation) (name : List ℕ) → is_evaluated made name ≡ is_among name (names_of made)
among-made [] name = refl
among-made (e ∷ made) name = by_name (bytes_eq e.name name) (among-made made name)
  where
    by_name : (b : Bool) → is_evaluated made name ≡ is_among name (names_of made)
        → is_some (if b then Some e else find (λ (f : Evaluation). bytes_eq f.name name) made)
        ≡ (b || is_among name (names_of made))
    by_name true h = refl
    by_name false h = h

names-added : (made : List Evaluation) (e : Evaluation) → names_of (made ++ e ∷ []) ≡ names_of made ++ e.name ∷ []
names-added [] e = refl
names-added (f ∷ made) e = ap (λ (names : Names). f.name ∷ names) (names-added made e)

-- these are evaluated, behind those that were made
record Evaluates (R : Reading (List Evaluation)) (made : List Evaluation) (wanted : Dynamics)
    (answers : List StepAnswer) (z : List Evaluation × List StepAnswer) : Type 0 where
  here : List StepAnswer
  whole : answers ≡ here ++ z.1
  long : length here ≡ length wanted
  results : z.0 ≡ made ++ evaluations wanted here
  takes : Takes R (questions_on wanted) here z.0

module _ (ps : List Property) where
  abbrev Evaluated : Names → Type 0
  Evaluated names =
      (made : List Evaluation) (answers : List StepAnswer) (z : List Evaluation × List StepAnswer)
      → evaluate_names ps made names answers ≡ Ok z
      → Evaluates (λ (a : List StepAnswer). evaluate_names ps made names a) made (dynamics ps (names_of made) names) answers z

  abbrev first_name : Bool → List Evaluation → (name : List ℕ) → Option DynamicProp → Reading (List Evaluation)
  first_name b made name o answers = if b then Ok (made, answers) else evaluated_property made name o answers

  abbrev then_others : Bool → List Evaluation → (name : List ℕ) → Option DynamicProp → Names
      → Reading (List Evaluation)
  then_others b made name o names answers =
      first_name b made name o answers >>= λ r. evaluate_names ps r.0 names r.1

  asked-one : (made : List Evaluation) (name : List ℕ) (d : DynamicProp) (names : Names) → Evaluated names
      → (answers : List StepAnswer) (z : List Evaluation × List StepAnswer)
      → then_others false made name (Some d) names answers ≡ Ok z
      → Evaluates (then_others false made name (Some d) names) made
      ((name, d) ∷ dynamics ps (names_of made ++ name ∷ []) names) answers z
  asked-one made name d names again [] z e = absurd cc
  asked-one made name d names again (a ∷ answers) z e =
      let one : Evaluation = evaluation name d a in
      let more : List Evaluation = made ++ one ∷ [] in
      let wanted : Dynamics = dynamics ps (names_of made ++ name ∷ []) names in
      let later : Evaluates (λ (later : List StepAnswer). evaluate_names ps more names later) more wanted answers z =
      subst (λ (known : Names). Evaluates (λ (later : List StepAnswer). evaluate_names ps more names later) more
      (dynamics ps known names) answers z) (names-added made one) (again more answers z e) in
      record {
        here = a ∷ later.here;
        whole = ap (λ (later : List StepAnswer). a ∷ later) later.whole;
        long = ap (λ (n : ℕ). suc n) later.long;
        results = later.results ∙ append_assoc made (one ∷ []) (evaluations wanted later.here);
        takes = takes-then (first_name false made name (Some d))
            (λ (m : List Evaluation) (later : List StepAnswer). evaluate_names ps m names later)
            (question_on name d ∷ []) (a ∷ []) more (questions_on wanted) later.here z.0
            (takes-map (λ (later : List StepAnswer). ask (question_on name d) later)
            (λ (b : StepAnswer). made ++ evaluation name d b ∷ [])
            (question_on name d ∷ []) (a ∷ []) a (takes-ask (question_on name d) a)) later.takes;
      }

  asked-name : (b : Bool) (made : List Evaluation) (name : List ℕ) (o : Option DynamicProp) (names : Names)
      → Evaluated names → (answers : List StepAnswer) (z : List Evaluation × List StepAnswer)
      → then_others b made name o names answers ≡ Ok z
      → Evaluates (then_others b made name o names) made
      (if b then dynamics ps (names_of made) names
      else with_dynamic name o (names_of made) (λ (more : Names). dynamics ps more names)) answers z
  asked-name true made name o names again answers z e = again made answers z e
  asked-name false made name None names again answers z e = again made answers z e
  asked-name false made name (Some d) names again answers z e = asked-one made name d names again answers z e

  evaluated-takes : (names : Names) → Evaluated names
  evaluated-takes [] made answers z e =
      let p = is-read made answers z e in
      record {
        here = [];
        whole = p.1;
        long = refl;
        results = sym p.0 ∙ sym (append-nil made);
        takes = subst (λ (m : List Evaluation). Takes (λ (a : List StepAnswer). evaluate_names ps made [] a) [] [] m) p.0
            (takes-none made);
      }
  evaluated-takes (name ∷ names) made answers z e =
      subst (λ (b : Bool). Evaluates (λ (a : List StepAnswer). evaluate_names ps made (name ∷ names) a) made
      (if b then dynamics ps (names_of made) names
      else with_dynamic name (dynamic_named ps name) (names_of made) (λ (more : Names). dynamics ps more names)) answers
      z) (among-made made name)
      (asked-name (is_evaluated made name) made name (dynamic_named ps name) names (evaluated-takes names) answers z e)

-- ---- candidates

module _ (l : Local) where
  -- the candidate is tried
  record IsTried (R : Reading (List Found)) (wanted : Dynamics) (matching_by : List StepAnswer → List Found)
      (answers : List StepAnswer) (z : List Found × List StepAnswer) : Type 0 where
    here : List StepAnswer
    whole : answers ≡ here ++ z.1
    long : length here ≡ length wanted
    found : z.0 ≡ matching_by here
    takes : Takes R (questions_on wanted) here z.0

  module _ (o : OfferRecord) where
    abbrev names : Names
    names = names_asked l.constraint l.preference

    abbrev wanted_by : Bool → Dynamics
    wanted_by b = if b then [] else dynamics o.properties [] names

    abbrev matched_by : Bool → List StepAnswer → List Found
    matched_by b answers =
        if b || matches_constraint (resolved (evaluations (wanted_by b) answers) o.properties) l.constraint
        then record { offer = o; made = evaluations (wanted_by b) answers } ∷ [] else []

    abbrev tried_by : Bool → Reading (List Found)
    tried_by b answers =
        if b then Ok (record { offer = o; made = [] } ∷ [], answers)
        else evaluate_names o.properties [] names answers >>= λ r. Ok (if_matching l o r.0, r.1)

    by-kind : (b : Bool) (answers : List StepAnswer) (z : List Found × List StepAnswer) → tried_by b answers ≡ Ok z
        → IsTried (tried_by b) (wanted_by b) (matched_by b) answers z
    by-kind true answers z e =
        let one : List Found = record { offer = o; made = [] } ∷ [] in
        let p = is-read one answers z e in
        record {
          here = [];
          whole = p.1;
          long = refl;
          found = sym p.0;
          takes = subst (λ (f : List Found). Takes (tried_by true) [] [] f) p.0 (takes-none one);
        }
    by-kind false answers z e =
        let r : Parted (evaluate_names o.properties [] names answers)
        (λ (s : List Evaluation × List StepAnswer). let t : AnswersRead (List Found) = Ok (if_matching l o s.0, s.1) in t) z =
        parted (evaluate_names o.properties [] names answers) _ z e in
        let p = is-read (if_matching l o r.part.0) r.part.1 z r.second in
        let made = evaluated-takes o.properties names [] answers r.part r.first in
        record {
          here = made.here;
          whole = made.whole ∙ ap (λ (left : List StepAnswer). made.here ++ left) p.1;
          long = made.long;
          found = sym p.0 ∙ ap (λ (m : List Evaluation). if_matching l o m) made.results;
          takes = subst (λ (f : List Found). Takes (tried_by false) (questions_on (wanted_by false)) made.here f) p.0
              (takes-map (λ (a : List StepAnswer). evaluate_names o.properties [] names a)
              (λ (m : List Evaluation). if_matching l o m) (questions_on (wanted_by false)) made.here r.part.0
              made.takes);
        }

    tried-takes : (answers : List StepAnswer) (z : List Found × List StepAnswer) → try_candidate l o answers ≡ Ok z
        → IsTried (λ (a : List StepAnswer). try_candidate l o a) (to_be_tried l o) (matched_candidate l o) answers z
    tried-takes answers z e = by-kind (matches_all o.proxy) answers z e

  -- they are tried until enough match
  record AreTried (os : List OfferRecord) (before : List Found) (answers : List StepAnswer)
      (z : List Found × List StepAnswer) : Type 0 where
    here : List StepAnswer
    qs : List Next
    more : List Found
    whole : answers ≡ here ++ z.1
    found : z.0 ≡ before ++ more
    in_order : Tries l (length before) os qs here more
    takes : Takes (λ (a : List StepAnswer). search_candidates l os before a) qs here z.0

  abbrev Searched : List OfferRecord → Type 0
  Searched os =
      (before : List Found) (answers : List StepAnswer) (z : List Found × List StepAnswer)
      → search_candidates l os before answers ≡ Ok z → AreTried os before answers z

  abbrev searched_by : Bool → OfferRecord → List OfferRecord → List Found → Reading (List Found)
  searched_by b o os before answers =
      if b then Ok (before, answers) else try_candidate l o answers >>= λ r. search_candidates l os (before ++ r.0) r.1

  -- no candidate is tried
  nothing-tried : (os : List OfferRecord) (before : List Found) (answers : List StepAnswer)
      (z : List Found × List StepAnswer) → before ≡ z.0 → answers ≡ z.1 → Tries l (length before) os [] [] []
      → Takes (λ (a : List StepAnswer). search_candidates l os before a) [] [] before → AreTried os before answers z
  nothing-tried os before answers z same left order none = record {
    here = [];
    qs = [];
    more = [];
    whole = left;
    found = sym same ∙ sym (append-nil before);
    in_order = order;
    takes = subst (λ (f : List Found). Takes (λ (a : List StepAnswer). search_candidates l os before a) [] [] f) same none;
  }

  one-tried : (o : OfferRecord) (os : List OfferRecord) → Searched os → (before : List Found)
      (answers : List StepAnswer) (z : List Found × List StepAnswer) → length before < l.effective.match_card
      → searched_by false o os before answers ≡ Ok z
      → (takes : (qs : List Next) (here : List StepAnswer) → Takes (searched_by false o os before) qs here z.0
      → Takes (λ (a : List StepAnswer). search_candidates l (o ∷ os) before a) qs here z.0) → AreTried (o ∷ os) before answers z
  one-tried o os again before answers z few e same =
      let r : Parted (try_candidate l o answers)
      (λ (s : List Found × List StepAnswer). search_candidates l os (before ++ s.0) s.1) z = parted (try_candidate l o answers) _ z e in
      let here = tried-takes o answers r.part r.first in
      let later = again (before ++ r.part.0) r.part.1 z r.second in
      let count : length (before ++ r.part.0) ≡ length before + length (matched_candidate l o here.here) =
      length-append before r.part.0 ∙ ap (λ (f : List Found). length before + length f) here.found in
      let order : Tries l (length before + length (matched_candidate l o here.here)) os later.qs later.here later.more =
      subst (λ (n : ℕ). Tries l n os later.qs later.here later.more) count later.in_order in
      record {
        here = here.here ++ later.here;
        qs = questions_on (to_be_tried l o) ++ later.qs;
        more = matched_candidate l o here.here ++ later.more;
        whole = here.whole ∙ (ap (λ (left : List StepAnswer). here.here ++ left) later.whole
            ∙ sym (append_assoc here.here later.here z.1));
        found = later.found ∙ (append_assoc before r.part.0 later.more
            ∙ ap (λ (f : List Found). before ++ (f ++ later.more)) here.found);
        in_order = tries (length before) o os here.here later.here later.qs later.more few here.long order;
        takes = same (questions_on (to_be_tried l o) ++ later.qs) (here.here ++ later.here)
            (takes-then (λ (a : List StepAnswer). try_candidate l o a)
            (λ (f : List Found) (a : List StepAnswer). search_candidates l os (before ++ f) a)
            (questions_on (to_be_tried l o)) here.here r.part.0 later.qs later.here z.0 here.takes later.takes);
      }

  searched-takes : (os : List OfferRecord) → Searched os
  searched-takes [] before answers z e =
      let p = is-read before answers z e in
      nothing-tried [] before answers z p.0 p.1 (none_left (length before)) (takes-none before)
  searched-takes (o ∷ os) before answers z e =
      by_card (nat_le l.effective.match_card (length before)) refl (searched-takes os) e
    where
      by_card : (b : Bool) → nat_le l.effective.match_card (length before) ≡ b → Searched os
          → searched_by b o os before answers ≡ Ok z → AreTried (o ∷ os) before answers z
      by_card true card again e =
          let p = is-read before answers z e in
          let many : l.effective.match_card ≤ length before = leb-true l.effective.match_card (length before) card in
          nothing-tried (o ∷ os) before answers z p.0 p.1 (enough (length before) (o ∷ os) many)
          (subst (λ (b : Bool). Takes (searched_by b o os before) [] [] before) (sym card) (takes-none before))
      by_card false card again e =
          let few : length before < l.effective.match_card = leb-false l.effective.match_card (length before) card in
          one-tried o os again before answers z few e
          (λ qs here t. subst (λ (b : Bool). Takes (searched_by b o os before) qs here z.0) (sym card) t)

-- ---- offers that matched

abbrev offers_of : List Found → List OfferRecord
offers_of found = map (λ (f : Found). f.offer) found

module _ (desired : SpecifiedProps) where
  -- one is completed
  record IsCompleted (R : Reading (List Evaluation)) (wanted : Dynamics) (answers : List StepAnswer)
      (z : List Evaluation × List StepAnswer) : Type 0 where
    here : List StepAnswer
    whole : answers ≡ here ++ z.1
    takes : Takes R (questions_on wanted) here z.0

  module _ (f : Found) where
    abbrev names_desired : Names
    names_desired = desired_names desired f.offer.properties

    abbrev completed_by : Bool → Reading (List Evaluation)
    completed_by b answers =
        if b then evaluate_names f.offer.properties f.made names_desired answers else Ok (f.made, answers)

    by-order : (b : Bool) (answers : List StepAnswer) (z : List Evaluation × List StepAnswer)
        → completed_by b answers ≡ Ok z
        → IsCompleted (completed_by b)
        (if b then dynamics f.offer.properties (names_of f.made) names_desired else []) answers z
    by-order true answers z e =
        let made = evaluated-takes f.offer.properties names_desired f.made answers z e in
        record { here = made.here; whole = made.whole; takes = made.takes }
    by-order false answers z e =
        let p = is-read f.made answers z e in
        record {
          here = [];
          whole = p.1;
          takes = subst (λ (m : List Evaluation). Takes (completed_by false) [] [] m) p.0 (takes-none f.made);
        }

    completed-takes : (answers : List StepAnswer) (z : List Evaluation × List StepAnswer)
        → complete_offer desired f.offer f.made answers ≡ Ok z
        → IsCompleted (λ (a : List StepAnswer). complete_offer desired f.offer f.made a) (to_be_completed desired f) answers z
    completed-takes answers z e = by-order (is_ordinary f.offer) answers z e

  -- and one after the other; the offers stay
  record AreCompleted (fs before : List Found) (answers : List StepAnswer) (z : List Found × List StepAnswer) : Type 0
    where
      here : List StepAnswer
      whole : answers ≡ here ++ z.1
      offers : offers_of z.0 ≡ offers_of before ++ offers_of fs
      takes : Takes (λ (a : List StepAnswer). all_completed desired before fs a) (completions desired fs) here z.0

  offers-added : (before : List Found) (f : Found) (o : OfferRecord) → f.offer ≡ o → (others : List OfferRecord)
      → offers_of (before ++ f ∷ []) ++ others ≡ offers_of before ++ o ∷ others
  offers-added [] f o same others = ap (λ (p : OfferRecord). p ∷ others) same
  offers-added (g ∷ before) f o same others =
      ap (λ (os : List OfferRecord). g.offer ∷ os) (offers-added before f o same others)

  all-completed-takes : (fs before : List Found) (answers : List StepAnswer) (z : List Found × List StepAnswer)
      → all_completed desired before fs answers ≡ Ok z → AreCompleted fs before answers z
  all-completed-takes [] before answers z e =
      let p = is-read before answers z e in
      record {
        here = [];
        whole = p.1;
        offers = ap offers_of (sym p.0) ∙ sym (append-nil (offers_of before));
        takes = subst (λ (f : List Found). Takes (λ (a : List StepAnswer). all_completed desired before [] a) [] [] f)
            p.0 (takes-none before);
      }
  all-completed-takes (f ∷ fs) before answers z e =
      let r : Parted (complete_offer desired f.offer f.made answers)
      (λ (s : List Evaluation × List StepAnswer).
      all_completed desired (before ++ record { offer = f.offer; made = s.0 } ∷ []) fs s.1) z =
      parted (complete_offer desired f.offer f.made answers) _ z e in
      let one : Found = record { offer = f.offer; made = r.part.0 } in
      let here = completed-takes f answers r.part r.first in
      let later = all-completed-takes fs (before ++ one ∷ []) r.part.1 z r.second in
      record {
        here = here.here ++ later.here;
        whole = here.whole ∙ (ap (λ (left : List StepAnswer). here.here ++ left) later.whole
            ∙ sym (append_assoc here.here later.here z.1));
        offers = later.offers ∙ offers-added before one f.offer refl (offers_of fs);
        takes = takes-then (λ (a : List StepAnswer). complete_offer desired f.offer f.made a)
            (λ (m : List Evaluation) (a : List StepAnswer).
            all_completed desired (before ++ record { offer = f.offer; made = m } ∷ []) fs a)
            (questions_on (to_be_completed desired f)) here.here r.part.0 (completions desired fs) later.here z.0
            here.takes later.takes;
      }

-- ---- other traders

record AreForwarded (wanted : Option ℕ) (ss : List Step) (answers : List StepAnswer)
    (z : List SubAnswer × List StepAnswer) : Type 0 where
  here : List StepAnswer
  qs : List Next
  whole : answers ≡ here ++ z.1
  calls : TakesSteps wanted ss qs here
  takes : Takes (λ (a : List StepAnswer). forward_steps wanted ss a) qs here z.0

forwarded-takes : (wanted : Option ℕ) (ss : List Step) (answers : List StepAnswer)
    (z : List SubAnswer × List StepAnswer) → forward_steps wanted ss answers ≡ Ok z → AreForwarded wanted ss answers z
forwarded-takes wanted [] answers z e =
    let none : List SubAnswer = [] in
    let p = is-read none answers z e in
    record {
      here = [];
      qs = [];
      whole = p.1;
      calls = no_step_left wanted;
      takes = subst (λ (g : List SubAnswer). Takes (λ (a : List StepAnswer). forward_steps wanted [] a) [] [] g) p.0
          (takes-none none);
    }
forwarded-takes wanted (step ∷ ss) answers z e =
    by_step (λ w xs y i. forwarded-takes w ss xs y i) (step wanted) refl answers e
  where
    goes : Option Next → List StepAnswer → AnswersRead (List SubAnswer)
    goes o xs = take_step o (λ a. forward_steps (less wanted a) ss) (forward_steps wanted ss) xs

    by_step : ((w : Option ℕ) (xs : List StepAnswer) (y : List SubAnswer × List StepAnswer)
        → forward_steps w ss xs ≡ Ok y → AreForwarded w ss xs y)
        → (o : Option Next) → step wanted ≡ o → (xs : List StepAnswer) → goes o xs ≡ Ok z
        → AreForwarded wanted (step ∷ ss) xs z
    by_step below None is xs e =
        let later = below wanted xs z e in
        record {
          here = later.here;
          qs = later.qs;
          whole = later.whole;
          calls = left_out wanted step ss later.qs later.here is later.calls;
          takes = subst (λ (o : Option Next). Takes (λ (a : List StepAnswer). goes o a) later.qs later.here z.0)
              (sym is) later.takes;
        }
    by_step below (Some q) is [] e = absurd cc
    by_step below (Some q) is (a ∷ xs) e =
        let left : Option ℕ = less wanted (sub_answer a) in
        let add : List SubAnswer → List SubAnswer = λ given. sub_answer a ∷ given in
        let r : Parted (forward_steps left ss xs)
        (λ (s : List SubAnswer × List StepAnswer).
        let t : AnswersRead (List SubAnswer) = Ok (sub_answer a ∷ s.0, s.1) in t) z = parted (forward_steps left ss xs) _ z e in
        let p = is-read (add r.part.0) r.part.1 z r.second in
        let later = below left xs r.part r.first in
        let all : Takes (λ (more : List StepAnswer). goes (Some q) more) (q ∷ later.qs) (a ∷ later.here)
        (add r.part.0) =
        takes-then (λ (more : List StepAnswer). ask q more)
        (λ (b : StepAnswer) (more : List StepAnswer). forward_steps (less wanted (sub_answer b)) ss more >>= λ s.
        let t : AnswersRead (List SubAnswer) = Ok (sub_answer b ∷ s.0, s.1) in t)
        (q ∷ []) (a ∷ []) a later.qs later.here (add r.part.0) (takes-ask q a)
        (takes-map (λ (more : List StepAnswer). forward_steps left ss more) add later.qs later.here r.part.0
        later.takes) in
        record {
          here = a ∷ later.here;
          qs = q ∷ later.qs;
          whole = ap (λ (more : List StepAnswer). a ∷ more)
              (later.whole ∙ ap (λ (more : List StepAnswer). later.here ++ more) p.1);
          calls = called wanted step ss later.qs later.here q a is later.calls;
          takes = subst (λ (o : Option Next). Takes (λ (more : List StepAnswer). goes o more) (q ∷ later.qs)
              (a ∷ later.here) z.0) (sym is)
              (subst (λ (g : List SubAnswer). Takes (λ (more : List StepAnswer). goes (Some q) more) (q ∷ later.qs)
              (a ∷ later.here) g) p.0 all);
        }

record AreGathered (found : List Found) (wanted : Option ℕ) (ss : List Step) (answers : List StepAnswer)
    (z : Gathered × List StepAnswer) : Type 0 where
  here : List StepAnswer
  qs : List Next
  whole : answers ≡ here ++ z.1
  calls : TakesSteps wanted ss qs here
  takes : Takes (λ (a : List StepAnswer). gathered_offers found a wanted ss) qs here z.0

gathered-takes : (found : List Found) (wanted : Option ℕ) (ss : List Step) (answers : List StepAnswer)
    (z : Gathered × List StepAnswer) → gathered_offers found answers wanted ss ≡ Ok z
    → AreGathered found wanted ss answers z
gathered-takes found wanted ss answers z e =
    let with_found : List SubAnswer → Gathered = λ given. record { found = found; given = given } in
    let r : Parted (forward_steps wanted ss answers)
    (λ (s : List SubAnswer × List StepAnswer). let t : AnswersRead Gathered = Ok (with_found s.0, s.1) in t) z =
    parted (forward_steps wanted ss answers) _ z e in
    let p = is-read (with_found r.part.0) r.part.1 z r.second in
    let here = forwarded-takes wanted ss answers r.part r.first in
    record {
      here = here.here;
      qs = here.qs;
      whole = here.whole ∙ ap (λ (left : List StepAnswer). here.here ++ left) p.1;
      calls = here.calls;
      takes = subst (λ (g : Gathered). Takes (λ (a : List StepAnswer). gathered_offers found a wanted ss) here.qs here.here g)
          p.0
          (takes-map (λ (a : List StepAnswer). forward_steps wanted ss a) with_found here.qs here.here r.part.0 here.takes);
    }

-- ---- they depend on the offers that matched alone

through-offers : (h : OfferRecord → Step) (found : List Found)
    → map (λ (f : Found). h f.offer) found ≡ map h (offers_of found)
through-offers h [] = refl
through-offers h (f ∷ found) = ap (λ (ss : List Step). h f.offer ∷ ss) (through-offers h found)

counted-from : (p : OfferRecord → Bool) (n : ℕ) (found : List Found)
    → fold (λ (a : ℕ) (f : Found). a + cond (p f.offer) 1 0) n found
    ≡ fold (λ (a : ℕ) (o : OfferRecord). a + cond (p o) 1 0) n (offers_of found)
counted-from p n [] = refl
counted-from p n (f ∷ found) = counted-from p (n + cond (p f.offer) 1 0) found

same-count : (p : OfferRecord → Bool) (found : List Found)
    → count_by (λ (f : Found). p f.offer) found ≡ count_by p (offers_of found)
same-count p found = counted-from p 0 found

some-offer : (p : OfferRecord → Bool) (found : List Found)
    → list_any (λ (f : Found). p f.offer) found ≡ list_any p (offers_of found)
some-offer p [] = refl
some-offer p (f ∷ found) = ap (λ (b : Bool). p f.offer || b) (some-offer p found)

abbrev linked_by : Local → Bool → List Step
linked_by l local_match = map (λ link wanted. link_step l wanted local_match link) l.links

same-calls : (l : Local) (done found : List Found) → offers_of done ≡ offers_of found
    → steps l done ≡ proxy_calls l found ++ link_calls l found
unfolding steps
same-calls l done found same =
    let h : OfferRecord → Step = λ o wanted. proxy_step l wanted o in
    let to_proxies : proxy_calls l done ≡ proxy_calls l found =
    through-offers h done ∙ (ap (λ (os : List OfferRecord). map h os) same ∙ sym (through-offers h found)) in
    let ordinary : list_any (λ (f : Found). is_ordinary f.offer) done
    ≡ list_any (λ (f : Found). is_ordinary f.offer) found =
    some-offer is_ordinary done ∙ (ap (λ (os : List OfferRecord). list_any is_ordinary os) same
    ∙ sym (some-offer is_ordinary found)) in
    let over_links : link_calls l done ≡ link_calls l found = ap (linked_by l) ordinary in
    ap (λ (ss : List Step). ss ++ link_calls l done) to_proxies
    ∙ ap (λ (ss : List Step). proxy_calls l found ++ ss) over_links

same-ordinary : (done found : List Found) → offers_of done ≡ offers_of found
    → count_ordinary done ≡ count_ordinary found
same-ordinary done found same =
    same-count is_ordinary done ∙ (ap (λ (os : List OfferRecord). count_by is_ordinary os) same
    ∙ sym (same-count is_ordinary found))

-- ---- the visit

record IsSearched (l : Local) (answers : List StepAnswer) (z : Gathered × List StepAnswer) : Type 0 where
  here : List StepAnswer
  questions : List Next
  whole : answers ≡ here ++ z.1
  takes : Takes (λ (a : List StepAnswer). search_of l a) questions here z.0
  order : QuestionsAreOrdered l questions here

search-takes : (l : Local) (answers : List StepAnswer) (z : Gathered × List StepAnswer) → search_of l answers ≡ Ok z
    → IsSearched l answers z
search-takes l answers z e =
    let r : Parted (search_candidates l l.candidates [] answers)
    (λ (s : List Found × List StepAnswer). after_search l s.0 s.1) z =
    parted (search_candidates l l.candidates [] answers) _ z e in
    let s : Parted (all_completed l.query.desired [] r.part.0 r.part.1)
    (λ (t : List Found × List StepAnswer). gathered_offers t.0 t.1 (wanted_behind l (count_ordinary t.0)) (steps l t.0)) z =
    parted (all_completed l.query.desired [] r.part.0 r.part.1) _ z r.second in
    let found = r.part.0 in
    let trials = searched-takes l l.candidates [] answers r.part r.first in
    let done = all-completed-takes l.query.desired found [] r.part.1 s.part s.first in
    let calls =
    gathered-takes s.part.0 (wanted_behind l (count_ordinary s.part.0)) (steps l s.part.0) s.part.1 z s.second in
    let later : List StepAnswer = done.here ++ calls.here in
    let others : List Next = calls.qs in
    let left : r.part.1 ≡ later ++ z.1 =
    done.whole ∙ (ap (λ (a : List StepAnswer). done.here ++ a) calls.whole
    ∙ sym (append_assoc done.here calls.here z.1)) in
    let rest : Takes (λ (a : List StepAnswer). after_search l found a)
    (completions l.query.desired found ++ others) later z.0 =
    takes-then (λ (a : List StepAnswer). all_completed l.query.desired [] found a)
    (λ (f : List Found) (a : List StepAnswer). gathered_offers f a (wanted_behind l (count_ordinary f)) (steps l f))
    (completions l.query.desired found) done.here s.part.0 others calls.here z.0 done.takes calls.takes in
    record {
      here = trials.here ++ later;
      questions = trials.qs ++ (completions l.query.desired found ++ others);
      whole = trials.whole ∙ (ap (λ (a : List StepAnswer). trials.here ++ a) left
          ∙ sym (append_assoc trials.here later z.1));
      takes = takes-then (λ (a : List StepAnswer). search_candidates l l.candidates [] a)
          (λ (f : List Found) (a : List StepAnswer). after_search l f a)
          trials.qs trials.here found (completions l.query.desired found ++ others) later z.0 trials.takes rest;
      order = record {
        found = found;
        trials = trials.qs;
        first = trials.here;
        later = done.here;
        candidates = subst (λ (f : List Found). Tries l 0 l.candidates trials.qs trials.here f) (sym trials.found)
            trials.in_order;
        others = others;
        given = calls.here;
        calls = subst (λ (n : ℕ). TakesSteps (wanted_behind l n) (proxy_calls l found ++ link_calls l found) others calls.here)
            (same-ordinary s.part.0 found done.offers)
            (subst (λ (ss : List Step). TakesSteps (wanted_behind l (count_ordinary s.part.0)) ss others calls.here)
            (same-calls l s.part.0 found done.offers) calls.calls);
        all = refl;
        answered = refl;
      };
    }

-- what a visit is asked, and what its reading stops at, is the same
module _ (l : Local) where
  exact : (before : List StepAnswer) (asked qs : List Next) (here left : List StepAnswer)
      → AsksInOrder l before asked (here ++ left) → Stops (visit_of l) before qs here → (g : Gathered)
      (rest : List StepAnswer) → visit_of l (before ++ here) ≡ Ok (g, rest) → (asked ≡ qs) × (here ++ left ≡ here)
  unfolding next_of
  exact before [] [] [] [] h s g rest e = (refl, refl)
  exact before (q ∷ asked) [] [] [] h s g rest e = absurd h
  exact before [] [] [] (a ∷ left) h s g rest e = absurd h
  exact before (q ∷ asked) [] [] (a ∷ left) h s g rest e =
      let end : next_of l (before ++ []) ≡ Done = ap (λ (r : AnswersRead Gathered). question_of r) e in
      let here : next_of l before ≡ Done =
      subst (λ (b : List StepAnswer). next_of l b ≡ Done) (append-nil before) end in
      absurd (h.1 (sym h.0 ∙ here))
  exact before [] (r ∷ qs) (a ∷ here) left h s g rest e = absurd h
  exact before (q ∷ asked) (r ∷ qs) (a ∷ here) left h s g rest e =
      let stop : next_of l before ≡ r = ap (λ (t : AnswersRead Gathered). question_of t) s.0 in
      let same : q ≡ r = sym h.0 ∙ stop in
      let further : visit_of l ((before ++ a ∷ []) ++ here) ≡ Ok (g, rest) =
      ap (visit_of l) (append_assoc before (a ∷ []) here) ∙ e in
      let later = exact (before ++ a ∷ []) asked qs here left h.2 s.1 g rest further in (
        ap (λ (p : Next). p ∷ asked) same ∙ ap (λ (ps : List Next). r ∷ ps) later.0,
        ap (λ (later : List StepAnswer). a ∷ later) later.1,
      )
  exact before asked [] (a ∷ here) left h s g rest e = absurd s
  exact before asked (r ∷ qs) [] left h s g rest e = absurd s

  at-end : (before : List StepAnswer) (asked : List Next) (later : List StepAnswer) → AsksInOrder l before asked later
      → next_of l (before ++ later) ≡ Done
  at-end before [] [] h = subst (λ (b : List StepAnswer). next_of l b ≡ Done) (sym (append-nil before)) h
  at-end before (q ∷ asked) (a ∷ later) h =
      subst (λ (b : List StepAnswer). next_of l b ≡ Done) (append_assoc before (a ∷ []) later)
      (at-end (before ++ a ∷ []) asked later h.2)
  at-end before [] (a ∷ later) h = absurd h
  at-end before (q ∷ asked) [] h = absurd h

  -- a visit that asks no more was read
  record IsRead (answers : List StepAnswer) : Type 0 where
    z : Gathered × List StepAnswer
    is : visit_of l answers ≡ Ok z

  was-read : (answers : List StepAnswer) → next_of l answers ≡ Done → IsRead answers
  unfolding next_of
  was-read answers e = by_visit (visit_of l answers) refl e
    where
      by_visit : (r : AnswersRead Gathered) → visit_of l answers ≡ r → question_of r ≡ Done → IsRead answers
      by_visit (Ok z) is e = record { z = z; is = is }
      by_visit (Err q) is e = absurd (never_done l answers q is e)

pub in-order : (l : Local) (questions : List Next) (answers : List StepAnswer) → l.path ≡ None
    → AsksInOrder l [] questions answers → QuestionsAreOrdered l questions answers
unfolding visit_of
in-order l questions answers searches asks =
    let read = was-read l answers (at-end l [] questions answers asks) in
    let by_search : visit_of l ≡ search_of l =
    ap (λ (p : Option LinkRecord). let R : Reading Gathered = λ a. visit_by p l a in R) searches in
    let s = search-takes l answers read.z (ap (λ (R : Reading Gathered). R answers) (sym by_search) ∙ read.is) in
    let stops : Stops (visit_of l) [] s.questions s.here =
    subst (λ (R : Reading Gathered). Stops R [] s.questions s.here) (sym by_search) s.takes.stops in
    let comes : visit_of l s.here ≡ Ok (read.z.0, []) =
    ap (visit_of l) (sym (append-nil s.here)) ∙ (ap (λ (R : Reading Gathered). R (s.here ++ [])) by_search
    ∙ s.takes.comes []) in
    let asks_all : AsksInOrder l [] questions (s.here ++ read.z.1) =
    subst (λ (later : List StepAnswer). AsksInOrder l [] questions later) s.whole asks in
    let same = exact l [] questions s.questions s.here read.z.1 asks_all stops read.z.0 [] comes in
    subst (λ (qs : List Next). QuestionsAreOrdered l qs answers) (sym same.0)
    (subst (λ (later : List StepAnswer). QuestionsAreOrdered l s.questions later) (sym (s.whole ∙ same.1)) s.order)

-- along a path the one question is asked
one-call : (l : Local) (link : LinkRecord) (qs : List Next) (answers : List StepAnswer)
    → TakesSteps None (path_step l link ∷ []) qs answers → qs ≡ Forward link.target (path_query l) ∷ []
one-call l link qs answers (left_out wanted step steps qs2 answers2 none rest) = absurd cc
one-call l link qs answers (called wanted step steps qs2 answers2 q a some (no_step_left w)) =
    let same : Forward link.target (path_query l) ≡ q = cc in
    ap (λ (p : Next). let ps : List Next = p ∷ [] in ps) (sym same)

pub along-path : (l : Local) (link : LinkRecord) (questions : List Next) (answers : List StepAnswer)
    → l.path ≡ Some link → AsksInOrder l [] questions answers → questions ≡ Forward link.target (path_query l) ∷ []
unfolding visit_of
along-path l link questions answers path asks =
    let read = was-read l answers (at-end l [] questions answers asks) in
    let only : List Step = path_step l link ∷ [] in
    let by_path : visit_of l ≡ (λ (a : List StepAnswer). gathered_offers [] a None only) =
    ap (λ (p : Option LinkRecord). let R : Reading Gathered = λ a. visit_by p l a in R) path in
    let s =
    gathered-takes [] None only answers read.z (ap (λ (R : Reading Gathered). R answers) (sym by_path) ∙ read.is) in
    let stops : Stops (visit_of l) [] s.qs s.here =
    subst (λ (R : Reading Gathered). Stops R [] s.qs s.here) (sym by_path) s.takes.stops in
    let comes : visit_of l s.here ≡ Ok (read.z.0, []) =
    ap (visit_of l) (sym (append-nil s.here)) ∙ (ap (λ (R : Reading Gathered). R (s.here ++ [])) by_path
    ∙ s.takes.comes []) in
    let asks_all : AsksInOrder l [] questions (s.here ++ read.z.1) =
    subst (λ (later : List StepAnswer). AsksInOrder l [] questions later) s.whole asks in
    (exact l [] questions s.qs s.here read.z.1 asks_all stops read.z.0 [] comes).0
    ∙ one-call l link s.qs s.here s.calls

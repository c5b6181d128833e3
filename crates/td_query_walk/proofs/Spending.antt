-- How many questions a visit asks at most: each reading of answers spends what it reads, and hands on the rest.
use Rattle.std.proofs.Common.{◌≡◌, ℕ, suc, ◌+◌, ◌<◌, ◌≤◌, nat_le, Bool, true, false, List, [], ◌∷◌, ◌++◌}
use Rattle.std.proofs.Common.{length, map, Option}
use Rattle.std.proofs.Common.{Some, None, Ok, Err, refl, arith, if◌then◌else◌}
use Rattle.std.proofs.lemmas.List.{length-append, length-map}
use Rattle.std.specs.List.{list_any}
use Rattle.td_cdr.specs.Format.{◌>>=◌}
use Rattle.td_typecode.specs.declared.reference.Ior.{Ior}
use Rattle.td_eval.specs.Mentioning.{Names, names_asked}
use Rattle.td_eval.specs.Values.{matches_constraint}
use Rattle.td_ops.specs.declared.call.Query.{Query}
use Rattle.td_store.specs.declared.local.Local.{Local}
use Rattle.td_store.specs.declared.record.LinkRecord.{LinkRecord}
use Rattle.td_store.specs.declared.record.OfferRecord.{OfferRecord}
use Rattle.td_value.specs.declared.structures.DynamicProp.{DynamicProp}
use Rattle.td_value.specs.declared.structures.Property.{Property}
use Rattle.td_walk.specs.Resolving.{dynamic_named, is_evaluated, resolved}
use Rattle.td_walk.specs.SubQueries.{link_step, proxy_step, wanted_behind}
use Rattle.td_walk.specs.Visits.{AnswersRead, ask, question_on, evaluated_property, evaluated_name, evaluate_names}
use Rattle.td_walk.specs.Visits.{matches_all}
use Rattle.td_walk.specs.Visits.{if_matching, try_candidate, search_candidates, complete_offer, all_completed}
use Rattle.td_walk.specs.Visits.{forward_steps, gathered_offers, search_of}
use Rattle.td_walk.specs.Visits.{visit_by, visit_of, steps, is_ordinary, desired_names, next_of, question_of, Step}
use Rattle.td_walk.specs.Visits.{less, take_step, sub_answer, path_step, count_ordinary}
use Rattle.td_walk.specs.declared.answer.Next.{Next}
use Rattle.td_walk.specs.declared.answer.Next.TheVariants.{Done, Forward}
use Rattle.td_walk.specs.declared.answer.StepAnswer.{StepAnswer}
use Rattle.td_walk.specs.declared.answer.SubAnswer.{SubAnswer}
use Rattle.td_walk.specs.declared.evaluation.Evaluation.{Evaluation}
use Rattle.td_walk.specs.declared.found.Found.{Found}
use Rattle.td_walk.specs.declared.gathering.Gathered.{Gathered}
use Rattle.td_query_walk.specs.Reach.{questions_on_all, turns_by, turns_of}

-- Of so many answers that may be read, a reading that is done leaves what its result may still ask for; one that stops
-- read fewer.
abbrev Spends : {X : Type 0} → (n : ℕ) → (X → ℕ) → List StepAnswer → AnswersRead X → Type 0
Spends n credit answers (Ok r) = length answers + credit r.0 ≤ length r.1 + n
Spends n credit answers (Err question) = length answers < n

spends-more : {X : Type 0} (m n : ℕ) (credit : X → ℕ) (answers : List StepAnswer) (r : AnswersRead X) → m ≤ n
    → Spends m credit answers r → Spends n credit answers r
spends-more m n credit answers (Ok r) le h =
    let done : length answers + credit r.0 ≤ length r.1 + m = h in
    omega (arith, le, done)
spends-more m n credit answers (Err q) le h = let stopped : length answers < m = h in omega (arith, le, stopped)

spends-then : {X Y : Type 0} (n : ℕ) (credit : X → ℕ) (more : Y → ℕ) (answers : List StepAnswer) (r : AnswersRead X)
    (f : X × List StepAnswer → AnswersRead Y) → Spends n credit answers r
    → ((s : X × List StepAnswer) → Spends (credit s.0) more s.1 (f s)) → Spends n more answers (r >>= f)
spends-then {X} {Y} n credit more answers (Ok s) f h k = by_next (f s) (k s)
  where
    done : length answers + credit s.0 ≤ length s.1 + n
    done = h

    by_next : (t : AnswersRead Y) → Spends (credit s.0) more s.1 t → Spends n more answers t
    by_next (Ok t) e =
        let next : length s.1 + more t.0 ≤ length t.1 + credit s.0 = e in
        omega (arith, done, next)
    by_next (Err q) e = let stopped : length s.1 < credit s.0 = e in omega (arith, done, stopped)
spends-then n credit more answers (Err q) f h k = h

spends-if : {X : Type 0} (n : ℕ) (credit : X → ℕ) (answers : List StepAnswer) (b : Bool) (r s : AnswersRead X)
    → Spends n credit answers r → Spends n credit answers s → Spends n credit answers (if b then r else s)
spends-if n credit answers true r s h k = h
spends-if n credit answers false r s h k = k

spends-ask : (n : ℕ) (question : Next) (answers : List StepAnswer)
    → Spends (suc n) (λ (a : StepAnswer). n) answers (ask question answers)
spends-ask n question [] = omega arith
spends-ask n question (a ∷ answers) = omega arith

-- ---- evaluations

module _ (n : ℕ) where
  abbrev rest : List Evaluation → ℕ
  rest made = n

  spends-property : (made : List Evaluation) (name : List ℕ) (o : Option DynamicProp) (answers : List StepAnswer)
      → Spends (suc n) rest answers (evaluated_property made name o answers)
  spends-property made name None answers = omega arith
  spends-property made name (Some d) answers =
      spends-then (suc n) (λ (a : StepAnswer). n) rest answers (ask (question_on name d) answers) _
      (spends-ask n (question_on name d) answers) (λ s. omega arith)

  spends-name : (ps : List Property) (made : List Evaluation) (name : List ℕ) (answers : List StepAnswer)
      → Spends (suc n) rest answers (evaluated_name ps made name answers)
  spends-name ps made name answers =
      spends-if (suc n) rest answers (is_evaluated made name) _ _ (omega arith)
      (spends-property made name (dynamic_named ps name) answers)

spends-evaluated : (n : ℕ) (ps : List Property) (made : List Evaluation) (names : Names) (answers : List StepAnswer)
    → Spends (length names + n) (rest n) answers (evaluate_names ps made names answers)
spends-evaluated n ps made [] answers = omega arith
spends-evaluated n ps made (name ∷ names) answers =
    let more = length names + n in
    spends-then (length (name ∷ names) + n) (rest more) (rest n) answers (evaluated_name ps made name answers) _
    (spends-more (suc more) (length (name ∷ names) + n) (rest more) answers (evaluated_name ps made name answers)
    (omega arith) (spends-name more ps made name answers))
    (λ s. spends-evaluated n ps s.0 names s.1)

-- ---- what those that were found may still ask for

module _ (l : Local) where
  abbrev desired_of : OfferRecord → ℕ
  desired_of o = length (desired_names l.query.desired o.properties)

  -- the evaluation of the desired properties, and one call
  abbrev held_by : List Found → ℕ
  held_by [] = 0
  held_by (f ∷ fs) = (desired_of f.offer + 1) + held_by fs

  held-joined : (fs gs : List Found) → held_by (fs ++ gs) ≡ held_by fs + held_by gs
  held-joined [] gs = omega arith
  held-joined (f ∷ fs) gs = let h : held_by (fs ++ gs) ≡ held_by fs + held_by gs = held-joined fs gs in omega (arith, h)

  module _ (n : ℕ) where
    abbrev found_rest : List Found → ℕ
    found_rest fs = held_by fs + n

    abbrev completed_rest : List Found → ℕ
    completed_rest fs = length fs + n

  few-matching : (o : OfferRecord) (made : List Evaluation) → held_by (if_matching l o made) ≤ desired_of o + 1
  few-matching o made = by_match (matches_constraint (resolved made o.properties) l.constraint)
    where
      by_match : (b : Bool)
          → held_by (if b then record { offer = o; made = made } ∷ [] else []) ≤ desired_of o + 1
      by_match true = omega arith
      by_match false = omega arith

  abbrev asked_names : Names
  asked_names = names_asked l.constraint l.preference

  spends-tried : (n : ℕ) (o : OfferRecord) (answers : List StepAnswer)
      → Spends (length asked_names + ((desired_of o + 1) + n)) (found_rest n) answers (try_candidate l o answers)
  spends-tried n o answers =
      let most = length asked_names + ((desired_of o + 1) + n) in
      spends-if most (found_rest n) answers (matches_all o.proxy) _ _ (omega arith)
      (spends-then most (rest ((desired_of o + 1) + n)) (found_rest n) answers
      (evaluate_names o.properties [] asked_names answers) _
      (spends-evaluated ((desired_of o + 1) + n) o.properties [] asked_names answers)
      (λ s. let few : held_by (if_matching l o s.0) ≤ desired_of o + 1 = few-matching o s.0 in omega (arith, few)))

  spends-searched : (n : ℕ) (os : List OfferRecord) (found : List Found) (answers : List StepAnswer)
      → Spends (held_by found + (questions_on_all l os + n)) (found_rest n) answers (search_candidates l os found answers)
  spends-searched n [] found answers = omega arith
  spends-searched n (o ∷ os) found answers =
      let all = held_by found + (questions_on_all l (o ∷ os) + n) in
      let later = held_by found + (questions_on_all l os + n) in
      spends-if all (found_rest n) answers (nat_le l.effective.match_card (length found)) _ _ (omega arith)
      (spends-then all (found_rest later) (found_rest n) answers (try_candidate l o answers) _
      (spends-more (length asked_names + ((desired_of o + 1) + later)) all (found_rest later) answers
      (try_candidate l o answers)
      (omega arith) (spends-tried later o answers))
      (λ s. let joined : held_by (found ++ s.0) ≡ held_by found + held_by s.0 = held-joined found s.0 in
      spends-more (held_by (found ++ s.0) + (questions_on_all l os + n)) (found_rest later s.0) (found_rest n) s.1
      (search_candidates l os (found ++ s.0) s.1) (omega (arith, joined)) (spends-searched n os (found ++ s.0) s.1)))

  -- ---- desired properties

  spends-completed : (n : ℕ) (o : OfferRecord) (made : List Evaluation) (answers : List StepAnswer)
      → Spends (desired_of o + n) (rest n) answers (complete_offer l.query.desired o made answers)
  spends-completed n o made answers =
      spends-if (desired_of o + n) (rest n) answers (is_ordinary o) _ _
      (spends-evaluated n o.properties made (desired_names l.query.desired o.properties) answers) (omega arith)

  spends-all-completed : (n : ℕ) (before fs : List Found) (answers : List StepAnswer)
      → Spends (length before + (held_by fs + n)) (completed_rest n) answers
      (all_completed l.query.desired before fs answers)
  spends-all-completed n before [] answers = omega arith
  spends-all-completed n before (f ∷ fs) answers =
      let all = length before + (held_by (f ∷ fs) + n) in
      let later = (length before + 1) + (held_by fs + n) in
      spends-then all (rest later) (completed_rest n) answers (complete_offer l.query.desired f.offer f.made answers) _
      (spends-more (desired_of f.offer + later) all (rest later) answers
      (complete_offer l.query.desired f.offer f.made answers) (omega arith) (spends-completed later f.offer f.made answers))
      (λ s. let done : List Found = before ++ record { offer = f.offer; made = s.0 } ∷ [] in
      let longer : length done ≡ length before + 1 =
      length-append before (record { offer = f.offer; made = s.0 } ∷ []) in
      spends-more (length done + (held_by fs + n)) later (completed_rest n) s.1
      (all_completed l.query.desired done fs s.1) (omega (arith, longer)) (spends-all-completed n done fs s.1))

-- ---- other traders

abbrev none_left : {X : Type 0} → X → ℕ
none_left x = 0

spends-forwarded : (wanted : Option ℕ) (ss : List Step) (answers : List StepAnswer)
    → Spends (length ss) none_left answers (forward_steps wanted ss answers)
spends-forwarded wanted [] answers = omega arith
spends-forwarded wanted (step ∷ ss) answers = by_step (spends-forwarded wanted ss answers)
    (λ a xs. spends-forwarded (less wanted a) ss xs) (step wanted)
  where
    by_step : Spends (length ss) none_left answers (forward_steps wanted ss answers)
        → ((a : SubAnswer) (xs : List StepAnswer)
        → Spends (length ss) none_left xs (forward_steps (less wanted a) ss xs))
        → (o : Option Next)
        → Spends (length (step ∷ ss)) none_left answers
        (take_step o (λ a. forward_steps (less wanted a) ss) (forward_steps wanted ss) answers)
    by_step skipped asked None =
        spends-more (length ss) (length (step ∷ ss)) none_left answers (forward_steps wanted ss answers) (omega arith) skipped
    by_step skipped asked (Some question) =
        let more = length ss in
        spends-then (length (step ∷ ss)) (λ (a : StepAnswer). more) none_left answers (ask question answers) _
        (spends-more (suc more) (length (step ∷ ss)) (λ (a : StepAnswer). more) answers (ask question answers)
        (omega arith) (spends-ask more question answers))
        (λ s. spends-then more none_left none_left s.1 (forward_steps (less wanted (sub_answer s.0)) ss s.1) _
        (asked (sub_answer s.0) s.1) (λ t. omega arith))

spends-gathered : (n : ℕ) (found : List Found) (answers : List StepAnswer) (wanted : Option ℕ) (ss : List Step)
    → length ss ≤ n → Spends n none_left answers (gathered_offers found answers wanted ss)
spends-gathered n found answers wanted ss few =
    spends-then n none_left none_left answers (forward_steps wanted ss answers) _
    (spends-more (length ss) n none_left answers (forward_steps wanted ss answers) few
    (spends-forwarded wanted ss answers)) (λ s. omega arith)

few-steps : (l : Local) (found : List Found) → length (steps l found) ≤ length found + length l.links
unfolding steps
few-steps l found =
    let any : Bool = list_any (λ (f : Found). is_ordinary f.offer) found in
    let to_proxies : List Step = map (λ (f : Found) (wanted : Option ℕ). proxy_step l wanted f.offer) found in
    let over : List Step = map (λ (link : LinkRecord) (wanted : Option ℕ). link_step l wanted any link) l.links in
    let all : length (to_proxies ++ over) ≡ length to_proxies + length over = length-append to_proxies over in
    let some : length to_proxies ≡ length found =
    length-map found (λ (f : Found) (wanted : Option ℕ). proxy_step l wanted f.offer) in
    let others : length over ≡ length l.links =
    length-map l.links (λ (link : LinkRecord) (wanted : Option ℕ). link_step l wanted any link) in
    omega (arith, all, some, others)

-- ---- the visit

spends-search : (l : Local) (answers : List StepAnswer)
    → Spends (questions_on_all l l.candidates + length l.links) none_left answers (search_of l answers)
spends-search l answers =
    let n = length l.links in
    let all = questions_on_all l l.candidates + n in
    spends-then all (found_rest l n) none_left answers (search_candidates l l.candidates [] answers) _
    (spends-more (held_by l [] + (questions_on_all l l.candidates + n)) all (found_rest l n) answers
    (search_candidates l l.candidates [] answers) (omega arith) (spends-searched l n l.candidates [] answers))
    (λ s. spends-then (held_by l s.0 + n) (completed_rest l n) none_left s.1
    (all_completed l.query.desired [] s.0 s.1) _
    (spends-more (0 + (held_by l s.0 + n)) (held_by l s.0 + n) (completed_rest l n) s.1
    (all_completed l.query.desired [] s.0 s.1) (omega arith) (spends-all-completed l n [] s.0 s.1))
    (λ t. spends-gathered (completed_rest l n t.0) t.0 t.1 (wanted_behind l (count_ordinary t.0)) (steps l t.0)
    (few-steps l t.0)))

spends-visit : (l : Local) (p : Option LinkRecord) (answers : List StepAnswer)
    → Spends (turns_by p l) none_left answers (visit_by p l answers)
spends-visit l None answers = spends-search l answers
spends-visit l (Some link) answers =
    spends-gathered 1 [] answers None (path_step l link ∷ []) (omega arith)

pub ends : (l : Local) (answers : List StepAnswer) → turns_of l ≤ length answers → next_of l answers ≡ Done
unfolding next_of visit_of
ends l answers le = by_visit (visit_by l.path l answers) (spends-visit l l.path answers)
  where
    by_visit : (r : AnswersRead Gathered) → Spends (turns_of l) none_left answers r → question_of r ≡ Done
    by_visit (Ok r) h = refl
    by_visit (Err q) h = let stopped : length answers < turns_of l = h in absurd (omega (arith, le, stopped))

pub asked_before : (l : Local) (answers : List StepAnswer) (target : Ior) (sub : Query)
    → next_of l answers ≡ Forward target sub → length answers < turns_of l
unfolding next_of visit_of
asked_before l answers target sub e = by_visit (visit_by l.path l answers) (spends-visit l l.path answers) e
  where
    by_visit : (r : AnswersRead Gathered) → Spends (turns_of l) none_left answers r → question_of r ≡ Forward target sub
        → length answers < turns_of l
    by_visit (Ok r) h e = absurd cc
    by_visit (Err q) h e = h

-- Which questions a visit asks.
use Rattle.std.proofs.Common.{◌≡◌, ℕ, Bool, true, false, List, [], ◌∷◌, ◌++◌, Option, Some, None, Result, Ok}
use Rattle.std.proofs.Common.{Err, refl, sym, ap, ◌∙◌, subst, if◌then◌else◌, ◌&&◌, option_map, map, not, ◌+◌, ◌-◌}
use Rattle.std.proofs.Common.{arith, length}
use Rattle.std.specs.List.{AllByRecursion, list_any}
use Rattle.td_cdr.specs.Format.{◌>>=◌}
use Rattle.td_typecode.specs.declared.reference.Ior.{Ior}
use Rattle.td_eval.specs.Mentioning.{Names, names_asked}
use Rattle.td_ops.specs.declared.call.Query.{Query}
use Rattle.td_store.specs.declared.local.Local.{Local}
use Rattle.td_store.specs.declared.record.LinkRecord.{LinkRecord}
use Rattle.td_store.specs.declared.record.OfferRecord.{OfferRecord}
use Rattle.td_store.specs.declared.record.ProxyPart.{ProxyPart}
use Rattle.td_value.specs.declared.structures.DynamicProp.{DynamicProp}
use Rattle.td_value.specs.declared.structures.Property.{Property}
use Rattle.td_value.specs.declared.unions.SpecifiedProps.{SpecifiedProps}
use Rattle.td_walk.specs.Resolving.{dynamic_named, is_evaluated}
use Rattle.td_walk.specs.SubQueries.{link_step, proxy_step, proxy_call, expansion_of, follows, has_hops, link_query}
use Rattle.td_walk.specs.SubQueries.{proxy_query, path_query, is_full, keeps_order, wanted_behind}
use Rattle.td_walk.specs.Visits.{AnswersRead, ask, question_on, evaluated_property, evaluated_name, evaluate_names}
use Rattle.td_walk.specs.Visits.{matches_all}
use Rattle.td_walk.specs.Visits.{try_candidate, search_candidates, complete_offer, all_completed, forward_steps}
use Rattle.td_walk.specs.Visits.{gathered_offers, search_of}
use Rattle.td_walk.specs.Visits.{visit_by, visit_of, steps, is_ordinary, desired_names, next_of, question_of, Step}
use Rattle.td_walk.specs.Visits.{less, take_step, sub_answer, path_step, count_ordinary}
use Rattle.td_walk.specs.declared.answer.Next.{Next}
use Rattle.td_walk.specs.declared.answer.Next.TheVariants.{Done, Forward}
use Rattle.td_walk.specs.declared.answer.StepAnswer.{StepAnswer}
use Rattle.td_walk.specs.declared.answer.SubAnswer.{SubAnswer}
use Rattle.td_walk.specs.declared.evaluation.Evaluation.{Evaluation}
use Rattle.td_walk.specs.declared.found.Found.{Found}
use Rattle.td_walk.specs.declared.gathering.Gathered.{Gathered}
use Rattle.td_query_walk.specs.Reach.{IsPassed, over_link, to_proxy, along_path}

module _ (P : Next → Type 0) where
  -- each question that a reading stops at is such a one
  abbrev pub Only : {A : Type 0} → Result A Next → Type 0
  Only r = (q : Next) → r ≡ Err q → P q

  only-ok : {A : Type 0} (x : A) → Only (let r : Result A Next = Ok x in r)
  only-ok x q e = absurd cc

  only-then : {A B : Type 0} (r : Result A Next) (f : A → Result B Next) → Only r → ((x : A) → Only (f x))
      → Only (r >>= f)
  only-then (Ok x) f h k q e = k x q e
  only-then (Err p) f h k q e = h q (ap (λ (z : Next). Err z) (let same : p ≡ q = cc in same))

  only-if : {A : Type 0} (b : Bool) (r s : Result A Next) → Only r → Only s → Only (if b then r else s)
  only-if true r s h k = h
  only-if false r s h k = k

  only-ask : (question : Next) (answers : List StepAnswer) → P question → Only (ask question answers)
  only-ask question [] p q e = let same : question ≡ q = cc in subst P same p
  only-ask question (a ∷ answers) p q e = absurd cc

  module _ (evaluates : (name : List ℕ) (d : DynamicProp) → P (question_on name d)) where
    only-property : (made : List Evaluation) (name : List ℕ) (o : Option DynamicProp) (answers : List StepAnswer)
        → Only (evaluated_property made name o answers)
    only-property made name None answers = only-ok _
    only-property made name (Some d) answers =
        only-then (ask (question_on name d) answers) _ (only-ask (question_on name d) answers (evaluates name d))
        (λ r. only-ok _)

    only-name : (ps : List Property) (made : List Evaluation) (name : List ℕ) (answers : List StepAnswer)
        → Only (evaluated_name ps made name answers)
    only-name ps made name answers =
        only-if (is_evaluated made name) _ _ (only-ok _) (only-property made name (dynamic_named ps name) answers)

    only-evaluated : (ps : List Property) (made : List Evaluation) (names : Names) (answers : List StepAnswer)
        → Only (evaluate_names ps made names answers)
    only-evaluated ps made [] answers = only-ok _
    only-evaluated ps made (name ∷ names) answers =
        only-then (evaluated_name ps made name answers) _ (only-name ps made name answers)
        (λ r. only-evaluated ps r.0 names r.1)

    only-tried : (l : Local) (o : OfferRecord) (answers : List StepAnswer) → Only (try_candidate l o answers)
    only-tried l o answers =
        only-if (matches_all o.proxy) _ _ (only-ok _)
        (only-then (evaluate_names o.properties [] (names_asked l.constraint l.preference) answers) _
        (only-evaluated o.properties [] (names_asked l.constraint l.preference) answers) (λ r. only-ok _))

    only-searched : (l : Local) (os : List OfferRecord) (found : List Found) (answers : List StepAnswer)
        → Only (search_candidates l os found answers)
    only-searched l [] found answers = only-ok _
    only-searched l (o ∷ os) found answers =
        only-if _ _ _ (only-ok _)
        (only-then (try_candidate l o answers) _ (only-tried l o answers) (λ r. only-searched l os (found ++ r.0) r.1))

    only-completed : (desired : SpecifiedProps) (o : OfferRecord) (made : List Evaluation) (answers : List StepAnswer)
        → Only (complete_offer desired o made answers)
    only-completed desired o made answers =
        only-if (is_ordinary o) _ _
        (only-evaluated o.properties made (desired_names desired o.properties) answers) (only-ok _)

    only-all-completed : (desired : SpecifiedProps) (before fs : List Found) (answers : List StepAnswer)
        → Only (all_completed desired before fs answers)
    only-all-completed desired before [] answers = only-ok _
    only-all-completed desired before (f ∷ fs) answers =
        only-then (complete_offer desired f.offer f.made answers) _ (only-completed desired f.offer f.made answers)
        (λ r. only-all-completed desired _ fs r.1)

  -- where so much is wanted, what the step asks is such a one
  abbrev pub AsksOnly : (Option ℕ → Type 0) → Step → Type 0
  AsksOnly W step = (wanted : Option ℕ) (q : Next) → W wanted → step wanted ≡ Some q → P q

  module _ (W : Option ℕ → Type 0) (falls : (wanted : Option ℕ) (a : SubAnswer) → W wanted → W (less wanted a)) where
    only-forwarded : (wanted : Option ℕ) → W wanted → (ss : List Step) (answers : List StepAnswer)
        → AllByRecursion (AsksOnly W) ss → Only (forward_steps wanted ss answers)
    only-forwarded wanted w [] answers h = only-ok _
    only-forwarded wanted w (step ∷ ss) answers h =
        by_step (λ v k xs. only-forwarded v k ss xs h.1) (step wanted) refl
      where
        by_step : ((v : Option ℕ) → W v → (xs : List StepAnswer) → Only (forward_steps v ss xs)) → (o : Option Next)
            → step wanted ≡ o
            → Only (take_step o (λ a. forward_steps (less wanted a) ss) (forward_steps wanted ss) answers)
        by_step below None is = below wanted w answers
        by_step below (Some p) is =
            only-then (ask p answers) _ (only-ask p answers (h.0 wanted p w is))
            (λ r. only-then (forward_steps (less wanted (sub_answer r.0)) ss r.1) _
            (below (less wanted (sub_answer r.0)) (falls wanted (sub_answer r.0) w) r.1) (λ s. only-ok _))

    all-joined : (ss ts : List Step) → AllByRecursion (AsksOnly W) ss → AllByRecursion (AsksOnly W) ts
        → AllByRecursion (AsksOnly W) (ss ++ ts)
    all-joined [] ts h k = k
    all-joined (s ∷ ss) ts h k = (h.0, all-joined ss ts h.1 k)

    all-steps : {X : Type 0} (step : X → Step) → ((x : X) → AsksOnly W (step x)) → (xs : List X)
        → AllByRecursion (AsksOnly W) (map step xs)
    all-steps step h [] = tt
    all-steps step h (x ∷ xs) = (h x, all-steps step h xs)

-- ---- a visit's questions

-- where a question goes to another trader, its query is one that is passed on
abbrev Goes : Local → Next → Type 0
Goes l q = (target : Ior) (sub : Query) → q ≡ Forward target sub → IsPassed l target sub

no-forward : (l : Local) (name : List ℕ) (d : DynamicProp) → Goes l (question_on name d)
no-forward l name d target sub e = absurd cc

goes : (l : Local) (t target : Ior) (q sub : Query) → IsPassed l t q → Forward t q ≡ Forward target sub
    → IsPassed l target sub
goes l t target q sub h e =
    let one : t ≡ target = cc in
    let two : q ≡ sub = cc in
    subst (λ (x : Query). IsPassed l target x) two (subst (λ (x : Ior). IsPassed l x q) one h)

first-holds : (a b : Bool) → (a && b) ≡ true → a ≡ true
first-holds true b e = refl
first-holds false b e = e

second-holds : (a b : Bool) → (a && b) ≡ true → b ≡ true
second-holds true b e = e
second-holds false b e = absurd cc

isnt-full : (b : Bool) → not b ≡ true → b ≡ false
isnt-full true e = absurd cc
isnt-full false e = refl

-- so much is wanted behind some gathered offers
abbrev pub IsWanted : Local → Option ℕ → Type 0
IsWanted l wanted = (gathered_offers : ℕ) × (wanted ≡ wanted_behind l gathered_offers)

wanted-falls : (l : Local) (wanted : Option ℕ) (a : SubAnswer) → IsWanted l wanted → IsWanted l (less wanted a)
wanted-falls l wanted a h =
    (h.0 + length a.offers, ap (λ (w : Option ℕ). less w a) h.1 ∙ by_order (keeps_order l.preference))
  where
    by_order : (b : Bool)
        → less (if b then Some (l.effective.return_card - h.0) else None) a
        ≡ (if b then Some (l.effective.return_card - (h.0 + length a.offers)) else None)
    by_order true =
        let same : (l.effective.return_card - h.0) - length a.offers
        ≡ l.effective.return_card - (h.0 + length a.offers) = omega arith in
        ap (λ (n : ℕ). Some n) same
    by_order false = refl

link-goes : (l : Local) → l.path ≡ None → (local_match : Bool) (link : LinkRecord) (wanted : Option ℕ) (q : Next)
    → IsWanted l wanted → link_step l wanted local_match link ≡ Some q → Goes l q
unfolding link_step
link-goes l searches local_match link wanted q w e target sub is =
    by_rule (not (is_full wanted) && follows l local_match link) refl e
  where
    by_rule : (b : Bool) → (not (is_full wanted) && follows l local_match link) ≡ b
        → (if b then Some (Forward link.target (link_query l wanted link)) else None) ≡ Some q → IsPassed l target sub
    by_rule true rule e =
        let same : Forward link.target (link_query l wanted link) ≡ q = cc in
        let some : is_full wanted ≡ false = isnt-full (is_full wanted) (first-holds (not (is_full wanted)) _ rule) in
        let hops : has_hops l ≡ true = first-holds (has_hops l) _ (second-holds (not (is_full wanted)) _ rule) in
        goes l link.target target (link_query l wanted link) sub
        (subst (λ (v : Option ℕ). IsPassed l link.target (link_query l v link)) (sym w.1)
        (over_link link w.0 searches hops (sym (ap is_full w.1) ∙ some)))
        (same ∙ is)
    by_rule false rule e = absurd cc

proxy-goes : (l : Local) → l.path ≡ None → (o : OfferRecord) (wanted : Option ℕ) (q : Next) → IsWanted l wanted
    → proxy_step l wanted o ≡ Some q → Goes l q
unfolding proxy_step
proxy-goes l searches o wanted q w e target sub is = by_part o.proxy e
  where
    by_text : (part : ProxyPart) (t : Option (List ℕ)) → has_hops l ≡ true → is_full wanted ≡ false
        → option_map (λ (text : List ℕ). Forward o.reference (proxy_query l wanted part text)) t ≡ Some q
        → IsPassed l target sub
    by_text part None hops some e = absurd cc
    by_text part (Some text) hops some e =
        let same : Forward o.reference (proxy_query l wanted part text) ≡ q = cc in
        goes l o.reference target (proxy_query l wanted part text) sub
        (subst (λ (v : Option ℕ). IsPassed l o.reference (proxy_query l v part text)) (sym w.1)
        (to_proxy o part text w.0 searches hops (sym (ap is_full w.1) ∙ some)))
        (same ∙ is)

    by_hops : (part : ProxyPart) (b : Bool) → (not (is_full wanted) && has_hops l) ≡ b
        → (if b then option_map (λ (text : List ℕ). Forward o.reference (proxy_query l wanted part text))
        (expansion_of l.query.constraint o part) else None) ≡ Some q
        → IsPassed l target sub
    by_hops part true both e =
        by_text part (expansion_of l.query.constraint o part) (second-holds (not (is_full wanted)) _ both)
        (isnt-full (is_full wanted) (first-holds (not (is_full wanted)) _ both)) e
    by_hops part false both e = absurd cc

    by_part : (p : Option ProxyPart) → proxy_call l wanted o p ≡ Some q → IsPassed l target sub
    by_part None e = absurd cc
    by_part (Some part) e = by_hops part (not (is_full wanted) && has_hops l) refl e

steps-go : (l : Local) → l.path ≡ None → (found : List Found)
    → AllByRecursion (AsksOnly (Goes l) (IsWanted l)) (steps l found)
unfolding steps
steps-go l searches found =
    let any : Bool = list_any (λ (f : Found). is_ordinary f.offer) found in
    all-joined (Goes l) (IsWanted l) (wanted-falls l) _ _
    (all-steps (Goes l) (IsWanted l) (wanted-falls l)
    (λ (f : Found) (wanted : Option ℕ). proxy_step l wanted f.offer)
    (λ f wanted q w e. proxy-goes l searches f.offer wanted q w e) found)
    (all-steps (Goes l) (IsWanted l) (wanted-falls l)
    (λ (link : LinkRecord) (wanted : Option ℕ). link_step l wanted any link)
    (λ link wanted q w e. link-goes l searches any link wanted q w e) l.links)

gathered-goes : (l : Local) (found : List Found) (answers : List StepAnswer) (wanted : Option ℕ) (ss : List Step)
    → IsWanted l wanted → AllByRecursion (AsksOnly (Goes l) (IsWanted l)) ss
    → Only (Goes l) (gathered_offers found answers wanted ss)
gathered-goes l found answers wanted ss w h =
    only-then (Goes l) (forward_steps wanted ss answers) _
    (only-forwarded (Goes l) (IsWanted l) (wanted-falls l) wanted w ss answers h) (λ r. only-ok (Goes l) _)

search-goes : (l : Local) → l.path ≡ None → (answers : List StepAnswer) → Only (Goes l) (search_of l answers)
search-goes l searches answers =
    only-then (Goes l) (search_candidates l l.candidates [] answers) _
    (only-searched (Goes l) (no-forward l) l l.candidates [] answers)
    (λ r. only-then (Goes l) (all_completed l.query.desired [] r.0 r.1) _
    (only-all-completed (Goes l) (no-forward l) l.query.desired [] r.0 r.1)
    (λ s. gathered-goes l s.0 s.1 (wanted_behind l (count_ordinary s.0)) (steps l s.0) (count_ordinary s.0, refl)
    (steps-go l searches s.0)))

-- whatever is wanted
abbrev AnyWanted : Option ℕ → Type 0
AnyWanted wanted = Unit {0}

path-goes : (l : Local) (link : LinkRecord) → l.path ≡ Some link → AsksOnly (Goes l) AnyWanted (path_step l link)
path-goes l link e wanted q w asked target sub is =
    let same : Forward link.target (path_query l) ≡ q = cc in
    goes l link.target target (path_query l) sub (along_path link e) (same ∙ is)

visit-goes : (l : Local) (p : Option LinkRecord) (answers : List StepAnswer) → l.path ≡ p
    → Only (Goes l) (visit_by p l answers)
visit-goes l None answers e = search-goes l e answers
visit-goes l (Some link) answers e =
    only-then (Goes l) (forward_steps None (path_step l link ∷ []) answers) _
    (only-forwarded (Goes l) AnyWanted (λ wanted a w. tt) None tt (path_step l link ∷ []) answers
    (path-goes l link e, tt)) (λ r. only-ok (Goes l) _)

-- each query that a visit passes on goes over a link, to a proxy offer's trader or along the path
pub only_passed : (l : Local) (answers : List StepAnswer) (target : Ior) (sub : Query)
    → next_of l answers ≡ Forward target sub → IsPassed l target sub
unfolding next_of visit_of
only_passed l answers target sub e = by_visit (visit_by l.path l answers) refl e
  where
    by_visit : (r : AnswersRead Gathered) → visit_by l.path l answers ≡ r → question_of r ≡ Forward target sub
        → IsPassed l target sub
    by_visit (Ok r) is e = absurd cc
    by_visit (Err q) is e = visit-goes l l.path answers refl q is target sub e

-- ---- no question is that nothing is left

abbrev Stands : Next → Type 0
Stands q = q ≡ Done → ⊥

stands-forward : (target : Ior) (sub : Query) (q : Next) → Forward target sub ≡ q → Stands q
stands-forward target sub q same e = absurd cc

link-stands : (l : Local) (local_match : Bool) (link : LinkRecord) (wanted : Option ℕ) (q : Next)
    → link_step l wanted local_match link ≡ Some q → Stands q
unfolding link_step
link-stands l local_match link wanted q e = by_rule (not (is_full wanted) && follows l local_match link) e
  where
    by_rule : (b : Bool) → (if b then Some (Forward link.target (link_query l wanted link)) else None) ≡ Some q → Stands q
    by_rule true e = stands-forward link.target (link_query l wanted link) q cc
    by_rule false e = absurd cc

proxy-stands : (l : Local) (o : OfferRecord) (wanted : Option ℕ) (q : Next) → proxy_step l wanted o ≡ Some q → Stands q
unfolding proxy_step
proxy-stands l o wanted q e = by_part o.proxy e
  where
    by_text : (part : ProxyPart) (t : Option (List ℕ))
        → option_map (λ (text : List ℕ). Forward o.reference (proxy_query l wanted part text)) t ≡ Some q → Stands q
    by_text part None e = absurd cc
    by_text part (Some text) e = stands-forward o.reference (proxy_query l wanted part text) q cc

    by_hops : (part : ProxyPart) (b : Bool)
        → (if b then option_map (λ (text : List ℕ). Forward o.reference (proxy_query l wanted part text))
        (expansion_of l.query.constraint o part) else None) ≡ Some q → Stands q
    by_hops part true e = by_text part (expansion_of l.query.constraint o part) e
    by_hops part false e = absurd cc

    by_part : (p : Option ProxyPart) → proxy_call l wanted o p ≡ Some q → Stands q
    by_part None e = absurd cc
    by_part (Some part) e = by_hops part (not (is_full wanted) && has_hops l) e

steps-stand : (l : Local) (found : List Found) → AllByRecursion (AsksOnly Stands AnyWanted) (steps l found)
unfolding steps
steps-stand l found =
    let any : Bool = list_any (λ (f : Found). is_ordinary f.offer) found in
    all-joined Stands AnyWanted (λ wanted a w. tt) _ _
    (all-steps Stands AnyWanted (λ wanted a w. tt) (λ (f : Found) (wanted : Option ℕ). proxy_step l wanted f.offer)
    (λ f wanted q w e. proxy-stands l f.offer wanted q e) found)
    (all-steps Stands AnyWanted (λ wanted a w. tt)
    (λ (link : LinkRecord) (wanted : Option ℕ). link_step l wanted any link)
    (λ link wanted q w e. link-stands l any link wanted q e) l.links)

gathered-stands : (found : List Found) (answers : List StepAnswer) (wanted : Option ℕ) (ss : List Step)
    → AllByRecursion (AsksOnly Stands AnyWanted) ss → Only Stands (gathered_offers found answers wanted ss)
gathered-stands found answers wanted ss h =
    only-then Stands (forward_steps wanted ss answers) _
    (only-forwarded Stands AnyWanted (λ wanted a w. tt) wanted tt ss answers h) (λ r. only-ok Stands _)

path-stands : (l : Local) (link : LinkRecord) → AsksOnly Stands AnyWanted (path_step l link)
path-stands l link wanted q w asked = stands-forward link.target (path_query l) q cc

evaluation-stands : (name : List ℕ) (d : DynamicProp) → Stands (question_on name d)
evaluation-stands name d e = absurd cc

visit-stands : (l : Local) (p : Option LinkRecord) (answers : List StepAnswer) → Only Stands (visit_by p l answers)
visit-stands l None answers =
    only-then Stands (search_candidates l l.candidates [] answers) _
    (only-searched Stands evaluation-stands l l.candidates [] answers)
    (λ r. only-then Stands (all_completed l.query.desired [] r.0 r.1) _
    (only-all-completed Stands evaluation-stands l.query.desired [] r.0 r.1)
    (λ s. gathered-stands s.0 s.1 (wanted_behind l (count_ordinary s.0)) (steps l s.0) (steps-stand l s.0)))
visit-stands l (Some link) answers =
    gathered-stands [] answers None (path_step l link ∷ []) (path-stands l link, tt)

pub never_done : (l : Local) (answers : List StepAnswer) (q : Next) → visit_of l answers ≡ Err q → q ≡ Done → ⊥
unfolding visit_of
never_done l answers q is = visit-stands l l.path answers q is

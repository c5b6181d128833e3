-- A search whose candidates ask nothing asks over its links alone, over each at most once.
use Rattle.std.proofs.Common.{◌≡◌, ℕ, suc, ◌+◌, ◌≤◌, Bool, true, false, cond, not, nat_le, ◌&&◌, List, [], ◌∷◌, ◌++◌}
use Rattle.std.proofs.Common.{length, map, Option, Some, None, Ok, Err, refl, sym, ap, subst, ◌∙◌, arith}
use Rattle.std.specs.List.{AllByRecursion, list_any}
use Rattle.td_cdr.specs.Format.{◌>>=◌}
use Rattle.td_typecode.specs.declared.reference.Ior.{Ior}
use Rattle.td_eval.specs.Mentioning.{Names, names_asked}
use Rattle.td_eval.specs.Values.{matches_constraint}
use Rattle.td_log_laws.specs.Short.{ArePlain, IsStaticOffer}
use Rattle.td_ops.specs.declared.call.Query.{Query}
use Rattle.td_store.specs.declared.local.Local.{Local}
use Rattle.td_store.specs.declared.record.LinkRecord.{LinkRecord}
use Rattle.td_store.specs.declared.record.OfferRecord.{OfferRecord}
use Rattle.td_store.specs.declared.record.ProxyPart.{ProxyPart}
use Rattle.td_types.proofs.Sequences.{each-append}
use Rattle.td_value.specs.declared.structures.DynamicProp.{DynamicProp}
use Rattle.td_value.specs.declared.structures.Property.{Property}
use Rattle.td_value.specs.declared.unions.SpecifiedProps.{SpecifiedProps}
use Rattle.td_walk.specs.Resolving.{dynamic_named, is_evaluated, resolved}
use Rattle.td_walk.specs.SubQueries.{follows, has_hops, is_full, link_query, link_step, proxy_call, proxy_step}
use Rattle.td_walk.specs.SubQueries.{wanted_behind}
use Rattle.td_walk.specs.Visits.{AnswersRead, Step, all_completed, complete_offer, after_search, count_ordinary}
use Rattle.td_walk.specs.Visits.{desired_names}
use Rattle.td_walk.specs.Visits.{evaluate_names, evaluated_name, evaluated_property, forward_steps, gathered_offers}
use Rattle.td_walk.specs.Visits.{if_matching}
use Rattle.td_walk.specs.Visits.{is_ordinary, less, matches_all, next_of, question_of, search_of, search_candidates}
use Rattle.td_walk.specs.Visits.{take_step}
use Rattle.td_walk.specs.Visits.{steps, sub_answer, try_candidate, visit_by, visit_of}
use Rattle.td_walk.specs.declared.answer.Next.{Next}
use Rattle.td_walk.specs.declared.answer.Next.TheVariants.{Done, Evaluate, Forward}
use Rattle.td_walk.specs.declared.answer.StepAnswer.{StepAnswer}
use Rattle.td_walk.specs.declared.answer.SubAnswer.{SubAnswer}
use Rattle.td_walk.specs.declared.evaluation.Evaluation.{Evaluation}
use Rattle.td_walk.specs.declared.found.Found.{Found}
use Rattle.td_walk.specs.declared.gathering.Gathered.{Gathered}

abbrev PlainFound : Found → Type 0
PlainFound f = IsStaticOffer f.offer

-- ---- candidates

name-plain : (properties : List Property) (made : List Evaluation) (name : List ℕ) (answers : List StepAnswer)
    → dynamic_named properties name ≡ None → evaluated_name properties made name answers ≡ Ok (made, answers)
name-plain properties made name answers e = by (is_evaluated made name) where
  by : (b : Bool)
      → cond b (Ok (made, answers)) (evaluated_property made name (dynamic_named properties name) answers)
      ≡ Ok (made, answers)
  by true = refl
  by false = ap (λ (d : Option DynamicProp). evaluated_property made name d answers) e

evaluated-plain : (properties : List Property) (made : List Evaluation) (names : Names) (answers : List StepAnswer)
    → ((name : List ℕ) → dynamic_named properties name ≡ None)
    → evaluate_names properties made names answers ≡ Ok (made, answers)
evaluated-plain properties made [] answers s = refl
evaluated-plain properties made (name ∷ names) answers s =
    ap (λ (r : AnswersRead (List Evaluation)). r >>= λ x. evaluate_names properties x.0 names x.1)
    (name-plain properties made name answers (s name))
    ∙ evaluated-plain properties made names answers s

tried-plain : (l : Local) (o : OfferRecord) (answers : List StepAnswer) → IsStaticOffer o
    → try_candidate l o answers ≡ Ok (if_matching l o [], answers)
tried-plain l o answers h =
    ap (λ (p : Option ProxyPart). cond (matches_all p) (Ok (record { offer = o; made = [] } ∷ [], answers))
    (evaluate_names o.properties [] (names_asked l.constraint l.preference) answers
    >>= λ r. Ok (if_matching l o r.0, r.1))) h.ordinary
    ∙ ap (λ (r : AnswersRead (List Evaluation)). r >>= λ x. Ok (if_matching l o x.0, x.1))
    (evaluated-plain o.properties [] (names_asked l.constraint l.preference) answers h.static)

matching-plain : (l : Local) (o : OfferRecord) → IsStaticOffer o → AllByRecursion PlainFound (if_matching l o [])
matching-plain l o h = by (matches_constraint (resolved [] o.properties) l.constraint) where
  by : (b : Bool) → AllByRecursion PlainFound (cond b (record { offer = o; made = [] } ∷ []) [])
  by true = (h, tt)
  by false = tt

-- no answer was taken
pub record Plainly (answers : List StepAnswer) (r : AnswersRead (List Found)) : Type 0 where
  pub found : List Found
  pub is : r ≡ Ok (found, answers)
  pub plain : AllByRecursion PlainFound found

searched-plain : (l : Local) (os : List OfferRecord) (found : List Found) (answers : List StepAnswer) → ArePlain os
    → AllByRecursion PlainFound found → Plainly answers (search_candidates l os found answers)
searched-plain l [] found answers h f = record { found = found; is = refl; plain = f }
searched-plain l (o ∷ os) found answers h f =
    by (nat_le l.effective.match_card (length found))
    (searched-plain l os (found ++ if_matching l o []) answers h.1
    (each-append PlainFound found (if_matching l o []) f (matching-plain l o h.0)))
  where
    by : (b : Bool) → Plainly answers (search_candidates l os (found ++ if_matching l o []) answers)
        → Plainly answers (cond b (Ok (found, answers)) (try_candidate l o answers >>= λ r. search_candidates l os (found ++ r.0) r.1))
    by true later = record { found = found; is = refl; plain = f }
    by false later = record {
      found = later.found;
      is = ap (λ (r : AnswersRead (List Found)). r >>= λ x. search_candidates l os (found ++ x.0) x.1) (tried-plain l o answers h.0)
          ∙ later.is;
      plain = later.plain;
    }

completed-plain : (desired : SpecifiedProps) (o : OfferRecord) (made : List Evaluation) (answers : List StepAnswer)
    → IsStaticOffer o → complete_offer desired o made answers ≡ Ok (made, answers)
completed-plain desired o made answers h = by (is_ordinary o) where
  by : (b : Bool)
      → cond b (evaluate_names o.properties made (desired_names desired o.properties) answers) (Ok (made, answers))
      ≡ Ok (made, answers)
  by true = evaluated-plain o.properties made (desired_names desired o.properties) answers h.static
  by false = refl

all-plain : (desired : SpecifiedProps) (before fs : List Found) (answers : List StepAnswer)
    → AllByRecursion PlainFound before → AllByRecursion PlainFound fs
    → Plainly answers (all_completed desired before fs answers)
all-plain desired before [] answers b h = record { found = before; is = refl; plain = b }
all-plain desired before (f ∷ fs) answers b h =
    let next : List Found = before ++ record { offer = f.offer; made = f.made } ∷ [] in
    let later = all-plain desired next fs answers
    (each-append PlainFound before (record { offer = f.offer; made = f.made } ∷ []) b (h.0, tt)) h.1 in
    record {
      found = later.found;
      is = ap (λ (r : AnswersRead (List Evaluation)). r >>= λ x.
          all_completed desired (before ++ record { offer = f.offer; made = x.0 } ∷ []) fs x.1)
          (completed-plain desired f.offer f.made answers h.0)
          ∙ later.is;
      plain = later.plain;
    }

-- ---- other traders

abbrev proxy_steps : Local → List Found → List Step
proxy_steps l found = map (λ f wanted. proxy_step l wanted f.offer) found

abbrev link_steps : Local → (local_match : Bool) → List LinkRecord → List Step
link_steps l m links = map (λ link wanted. link_step l wanted m link) links

proxy-none : (l : Local) (wanted : Option ℕ) (o : OfferRecord) → o.proxy ≡ None → proxy_step l wanted o ≡ None
unfolding proxy_step
proxy-none l wanted o e = ap (λ (p : Option ProxyPart). proxy_call l wanted o p) e

skipped : (l : Local) (wanted : Option ℕ) (found : List Found) (rest : List Step) (answers : List StepAnswer)
    → AllByRecursion PlainFound found
    → forward_steps wanted (proxy_steps l found ++ rest) answers ≡ forward_steps wanted rest answers
skipped l wanted [] rest answers h = refl
skipped l wanted (f ∷ fs) rest answers h =
    ap (λ (o : Option Next). take_step o (λ a. forward_steps (less wanted a) (proxy_steps l fs ++ rest))
    (forward_steps wanted (proxy_steps l fs ++ rest)) answers) (proxy-none l wanted f.offer h.0.ordinary)
    ∙ skipped l wanted fs rest answers h.1

-- what a reading that lacks an answer asks is over one of the links; and it lacks none where there is one for each
abbrev OverLinks : {X : Type 0} → Local → (few : Type 0) → AnswersRead X → Type 0
OverLinks l few (Ok r) = Unit {0}
OverLinks l few (Err question) =
    (few → ⊥) × ((link : LinkRecord) × (wanted : Option ℕ) × (question ≡ Forward link.target (link_query l wanted link))
    × (has_hops l ≡ true))

and-then : {X Y : Type 0} (l : Local) (few : Type 0) (r : AnswersRead X) (f : X × List StepAnswer → AnswersRead Y)
    → OverLinks l few r → ((x : X × List StepAnswer) → OverLinks l few (f x)) → OverLinks l few (r >>= f)
and-then l few (Ok r) f h k = k r
and-then l few (Err question) f h k = h

both-left : (a b : Bool) → (a && b) ≡ true → a ≡ true
both-left true b e = refl
both-left false b e = e

both-right : (a b : Bool) → (a && b) ≡ true → b ≡ true
both-right true b e = e
both-right false b e = absurd cc

-- a link's question
link-asks : (l : Local) (wanted : Option ℕ) (m : Bool) (link : LinkRecord) (question : Next)
    → link_step l wanted m link ≡ Some question
    → (question ≡ Forward link.target (link_query l wanted link)) × (has_hops l ≡ true)
unfolding link_step
link-asks l wanted m link question e = by (not (is_full wanted) && follows l m link) refl e where
  by : (b : Bool) → (not (is_full wanted) && follows l m link) ≡ b
      → cond b (Some (Forward link.target (link_query l wanted link))) None ≡ Some question
      → (question ≡ Forward link.target (link_query l wanted link)) × (has_hops l ≡ true)
  by true is same = (
    sym (let one : Forward link.target (link_query l wanted link) ≡ question = cc in one),
    both-left (has_hops l) _ (both-right (not (is_full wanted)) (follows l m link) is),
  )
  by false is same = absurd cc

-- the reading of one step, by the question that it has
step-over : (l : Local) (m : Bool) (link : LinkRecord) (links : List LinkRecord) (wanted : Option ℕ)
    (answers : List StepAnswer)
    → ((w : Option ℕ) (rest : List StepAnswer)
    → OverLinks l (length links ≤ length rest) (forward_steps w (link_steps l m links) rest))
    → (o : Option Next) → link_step l wanted m link ≡ o
    → OverLinks l (suc (length links) ≤ length answers)
    (take_step o (λ a. forward_steps (less wanted a) (link_steps l m links)) (forward_steps wanted (link_steps l m links))
    answers)
step-over l m link links wanted answers later None is =
    weaker (forward_steps wanted (link_steps l m links) answers) (later wanted answers)
  where
    weaker : (r : AnswersRead (List SubAnswer)) → OverLinks l (length links ≤ length answers) r
        → OverLinks l (suc (length links) ≤ length answers) r
    weaker (Ok r) h = tt
    weaker (Err question) h = ((λ few. h.0 (omega (arith, few))), h.1)
step-over l m link links wanted [] later (Some question) is =
    let one = link-asks l wanted m link question is in
    ((λ few. (let no : ⊥ = omega (arith, few) in no)), (link, wanted, one.0, one.1))
step-over l m link links wanted (a ∷ answers) later (Some question) is =
    and-then l (suc (length links) ≤ suc (length answers))
    (forward_steps (less wanted (sub_answer a)) (link_steps l m links) answers)
    (λ s. Ok (sub_answer a ∷ s.0, s.1))
    (weaker (forward_steps (less wanted (sub_answer a)) (link_steps l m links) answers)
    (later (less wanted (sub_answer a)) answers))
    (λ s. tt)
  where
    weaker : (r : AnswersRead (List SubAnswer)) → OverLinks l (length links ≤ length answers) r
        → OverLinks l (suc (length links) ≤ suc (length answers)) r
    weaker (Ok r) h = tt
    weaker (Err question) h = ((λ few. h.0 (omega (arith, few))), h.1)

links-over : (l : Local) (m : Bool) (links : List LinkRecord) (wanted : Option ℕ) (answers : List StepAnswer)
    → OverLinks l (length links ≤ length answers) (forward_steps wanted (link_steps l m links) answers)
links-over l m [] wanted answers = tt
links-over l m (link ∷ links) wanted answers =
    step-over l m link links wanted answers (λ w rest. links-over l m links w rest) (link_step l wanted m link) refl

-- ---- the visit

gathered-over : (l : Local) (found : List Found) (answers : List StepAnswer) (wanted : Option ℕ)
    → AllByRecursion PlainFound found
    → OverLinks l (length l.links ≤ length answers) (gathered_offers found answers wanted (steps l found))
unfolding steps
gathered-over l found answers wanted h =
    let m : Bool = list_any (λ f. is_ordinary f.offer) found in
    let over : OverLinks l (length l.links ≤ length answers)
    (forward_steps wanted (proxy_steps l found ++ link_steps l m l.links) answers) =
    subst (λ (r : AnswersRead (List SubAnswer)). OverLinks l (length l.links ≤ length answers) r)
    (sym (skipped l wanted found (link_steps l m l.links) answers h)) (links-over l m l.links wanted answers) in
    and-then l (length l.links ≤ length answers)
    (forward_steps wanted (proxy_steps l found ++ link_steps l m l.links) answers)
    (λ r. Ok (record { found = found; given = r.0 }, r.1)) over (λ r. tt)

search-over : (l : Local) (answers : List StepAnswer) → ArePlain l.candidates
    → OverLinks l (length l.links ≤ length answers) (search_of l answers)
search-over l answers h =
    let first = searched-plain l l.candidates [] answers h tt in
    let all = all-plain l.query.desired [] first.found answers tt first.plain in
    subst (λ (r : AnswersRead (List Found)). OverLinks l (length l.links ≤ length answers) (r >>= λ x. after_search l x.0 x.1))
    (sym first.is)
    (subst (λ (r : AnswersRead (List Found)). OverLinks l (length l.links ≤ length answers)
    (r >>= λ x. gathered_offers x.0 x.1 (wanted_behind l (count_ordinary x.0)) (steps l x.0))) (sym all.is)
    (gathered-over l all.found answers (wanted_behind l (count_ordinary all.found)) all.plain))

-- What comes next: nothing, and so it is where there is an answer for each link; or a question over a link.
abbrev pub AsksLinks : Local → (few : Type 0) → Next → Type 0
AsksLinks l few Done = Unit {0}
AsksLinks l few (Evaluate e name returned extra) = ⊥
AsksLinks l few (Forward target q) =
    (few → ⊥) × ((link : LinkRecord) × (wanted : Option ℕ) × (q ≡ link_query l wanted link) × (has_hops l ≡ true))

forward-same : (a : Ior) (q : Query) (b : Ior) (p : Query) → Forward a q ≡ Forward b p → q ≡ p
forward-same a q b p e = cc

asks-links : (l : Local) (few : Type 0) (r : AnswersRead Gathered) → OverLinks l few r → AsksLinks l few (question_of r)
asks-links l few (Ok r) h = tt
asks-links l few (Err Done) h = tt
asks-links l few (Err (Evaluate e name returned extra)) h = absurd (let same = h.1.2 in cc)
asks-links l few (Err (Forward target q)) h =
    (h.0, (h.1.0, h.1.1, forward-same target q h.1.0.target (link_query l h.1.1 h.1.0) h.1.2, h.1.3))

pub next-links : (l : Local) (answers : List StepAnswer) → l.path ≡ None → ArePlain l.candidates
    → AsksLinks l (length l.links ≤ length answers) (next_of l answers)
unfolding next_of visit_of
next-links l answers none plain =
    asks-links l (length l.links ≤ length answers) (visit_by l.path l answers)
    (subst (λ (p : Option LinkRecord). OverLinks l (length l.links ≤ length answers) (visit_by p l answers)) (sym none)
    (search-over l answers plain))

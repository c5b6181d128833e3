-- Worked walks, step by step.
use Rattle.std.proofs.Common.{◌≡◌, ℕ, ◌+◌, List, [], ◌∷◌, ◌++◌, refl, sym, ap, ◌∙◌, subst, arith}
use Rattle.std.proofs.Common.{length, ltb-false}
use Rattle.std.specs.Prelude.{Bool, true, ◌&&◌, if◌then◌else◌, Option, None, Some, Ok, is_some, codes}
use Rattle.td_cdr.specs.declared.order.Order.TheVariants.{Big}
use Rattle.td_typecode.specs.Layers.{value-any, value-code, value-object, value-struct}
use Rattle.td_typecode.specs.declared.code.Any.{Any}
use Rattle.td_typecode.specs.declared.code.TypeCode.TheVariants as code
use Rattle.td_typecode.specs.declared.code.Value.TheVariants as value
use Rattle.td_typecode.specs.declared.reference.Ior.{Ior}
use Rattle.td_eval.specs.Mentioning.{with_names}
use Rattle.td_eval.specs.Properties.{property}
use Rattle.td_ior.specs.Profiles.{first_iiop, iiop_of}
use Rattle.td_ior.specs.declared.profile.Iiop.{Iiop}
use Rattle.td_store.proofs.Shapes.{dynamic-shape}
use Rattle.td_store.specs.Examples.{nobody, nothing_more, offer, printer}
use Rattle.td_store.specs.declared.local.Local.{Local}
use Rattle.td_value.specs.Structures.{offer as offer_format}
use Rattle.td_value.specs.declared.enumerations.FollowOption.TheVariants.{Always}
use Rattle.td_value.specs.declared.structures.Property.{Property}
use Rattle.td_walk.specs.Answers.{AnswersGathered, DrawsGathered, HasDrawn, IsAnswer, IsRankedAnswer, drawn_by}
use Rattle.td_walk.specs.Peering.{Exchange, HasSmallOffers, Querying}
use Rattle.td_walk.specs.Peering.{Answered as Replied, Evaluated as Valued, Failed as Missed}
use Rattle.td_walk.specs.Resolving.{dynamic_named, dynamic_of, may_stand, resolved, value_from}
use Rattle.td_walk.specs.SubQueries.{link_query, link_step, path_query, proxy_step}
use Rattle.td_walk.specs.Visits.{AnswersRead, next_of, question_of, steps, visit_of}
use Rattle.td_walk.specs.declared.answer.Next.{Next}
use Rattle.td_walk.specs.declared.answer.Next.TheVariants.{Evaluate, Forward}
use Rattle.td_walk.specs.declared.answer.StepAnswer.{StepAnswer}
use Rattle.td_walk.specs.declared.answer.StepAnswer.TheVariants as answer
use Rattle.td_walk.specs.declared.answer.SubAnswer.{SubAnswer}
use Rattle.td_walk.specs.declared.fault.PeerFault.TheVariants as fault
use Rattle.td_walk.specs.declared.gathering.Gathered.{Gathered}
use Rattle.td_walk.specs.declared.trace.TraceItem.{TraceItem}
use Rattle.td_walk.specs.declared.trace.TraceItem.TheVariants as item
use Rattle.td_walk.specs.declared.trace.Visit.TheVariants as visit
use Rattle.td_query_walk.specs.Examples.{along, example_query as whole_query, elsewhere, far, given_there, link, over}
use Rattle.td_query_walk.specs.Examples.{plain}
use Rattle.td_query_walk.specs.Examples.{search, under}
use Rattle.td_query_walk.specs.WalkExamples.{FirstQueryGives, WorkedWalks, alike, answers, at_second, course}
use Rattle.td_query_walk.specs.WalkExamples.{evaluate_queue, group}
use Rattle.td_query_walk.specs.WalkExamples.{nowhere, one_offer, one_call, over_queue, queue, content, content_by}
use Rattle.td_query_walk.specs.WalkLaws.{BeginsIn, Group}
use Rattle.td_query_walk.specs.Walks.{EndsVisit, OpensWith, Search, Path, Start, Step, Steps, Walk, no_offers}
use Rattle.td_query_walk.specs.Walks.{searching, passing, refused, repeat, asking, done, asked, visited, outside}
use Rattle.td_query_walk.specs.Walks.{no_memory_with, evaluated, unevaluated, unreachable}

-- ---- a visit with one question

-- a visit that draws no words ends
ended : (l : Local) (rs : List StepAnswer) (g : Gathered) (a : SubAnswer) (word : ℕ → ℕ) (world : ℕ)
    (calls : List Exchange) → visit_of l rs ≡ Ok (g, []) → drawn_by l g ≡ 0 → IsRankedAnswer l g word a
    → EndsVisit (course word world calls) l rs a (course word world calls)
unfolding next_of IsAnswer HasDrawn
ended l rs g a word world calls is none ranked = record {
  done = ap (λ (r : AnswersRead Gathered). question_of r) is;
  answer = subst (λ (r : AnswersRead Gathered). AnswersGathered l r word a) (sym is) ranked;
  drawn = subst (λ (r : AnswersRead Gathered). DrawsGathered l r word word) (sym is)
      (λ k. let e : k ≡ k + drawn_by l g = omega (arith, none) in ap word e);
  world = refl;
  calls = refl;
}

one-question : (g : Group) (inside : ℕ → Ior → Option ℕ) (word : ℕ → ℕ) (start : Start) (l : Local) (head : TraceItem)
    (question : Next) (t : List TraceItem) (r : StepAnswer) (gathered : Gathered) (a : SubAnswer) (begun : ℕ)
    (calls : List Exchange) → BeginsIn g 0 0 whole_query start 1 → OpensWith 0 l start head → next_of l [] ≡ question
    → Step (BeginsIn g) inside (course word 1 []) question t r (course word begun calls)
    → visit_of l (r ∷ []) ≡ Ok (gathered, []) → drawn_by l gathered ≡ 0 → IsRankedAnswer l gathered word a
    → FirstQueryGives g inside word (head ∷ (t ++ []) ++ item.Leave ∷ []) (visit.Answered a l.attributes.max_list) begun calls
one-question g inside word start l head question t r gathered a begun calls b o is step visit none ranked =
    let s = course word 1 [] in
    let m = course word begun calls in
    let last : EndsVisit m l (r ∷ []) a m = ended l (r ∷ []) gathered a word begun calls visit none ranked in
    let first : Step (BeginsIn g) inside s (next_of l []) t r m =
    subst (λ (n : Next). Step (BeginsIn g) inside s n t r m) (sym is) step in
    let all : Steps (BeginsIn g) inside s l [] (t ++ []) (r ∷ []) m = asked first (done last.done) in
    asking b o all last

-- ---- what the visits ask, and what they gather

-- what the other trader gives is small
pub far_small : HasSmallOffers given_there
far_small = (ltb-false 6291456 (length (offer_format.format.writes far Big 0)) refl, tt)

pub next-along : next_of along [] ≡ Forward elsewhere (path_query along)
unfolding next_of visit_of steps link_step proxy_step with_names resolved
next-along = refl

visit-along : visit_of along (answer.Offers given_there ∷ [])
    ≡ Ok (record { found = []; given = given_there ∷ [] }, [])
unfolding visit_of steps link_step proxy_step with_names resolved
visit-along = refl

pub next-over-none : next_of (over Always []) [] ≡ Forward elsewhere (link_query (over Always []) (Some 1000) (link Always))
unfolding next_of visit_of steps link_step proxy_step with_names resolved
next-over-none = refl

visit-over-none : visit_of (over Always []) (answer.Offers no_offers ∷ [])
    ≡ Ok (record { found = []; given = no_offers ∷ [] }, [])
unfolding visit_of steps link_step proxy_step with_names resolved
visit-over-none = refl

next-over-plain : next_of (over Always (plain ∷ [])) []
    ≡ Forward elsewhere (link_query (over Always (plain ∷ [])) (Some 999) (link Always))
unfolding next_of visit_of steps link_step proxy_step with_names resolved
next-over-plain = refl

visit-over-plain : visit_of (over Always (plain ∷ [])) (answer.Failed ∷ [])
    ≡ Ok (record { found = record { offer = plain; made = [] } ∷ []; given = no_offers ∷ [] }, [])
unfolding visit_of steps link_step proxy_step with_names resolved
visit-over-plain = refl

visit-alone : visit_of (search [] []) [] ≡ Ok (record { found = []; given = [] }, [])
unfolding visit_of steps link_step proxy_step with_names resolved
visit-alone = refl

-- ---- an offer with a dynamic property

next-queue : (e : Ior) → next_of (over_queue e) [] ≡ Evaluate e (codes "Queue") code.ULong nothing_more
unfolding next_of visit_of steps link_step proxy_step with_names resolved property dynamic_named dynamic_of
next-queue e =
    let inner = value-struct (value.ObjRef e ∷ value.Code code.ULong ∷ value.AnyValue nothing_more ∷ []) in
    let first = value-object e in
    let second = value-code code.ULong in
    let third = value-any nothing_more in
    rw (dynamic-shape, inner, first, second, third) refl

-- the offer, and what its property's evaluation gave
abbrev gathered-queue : Ior → Option Any → Gathered
gathered-queue e v = record {
  found = record { offer = offer 3 printer 1 (content_by e ∷ []); made = under (codes "Queue") v ∷ [] } ∷ [];
  given = [];
}

visit-queue : (e : Ior) (a : StepAnswer)
    → visit_of (over_queue e) (a ∷ []) ≡ Ok (gathered-queue e (value_from (content e) a), [])
unfolding visit_of steps link_step proxy_step with_names resolved property dynamic_named dynamic_of
visit-queue e a =
    let inner = value-struct (value.ObjRef e ∷ value.Code code.ULong ∷ value.AnyValue nothing_more ∷ []) in
    let first = value-object e in
    let second = value-code code.ULong in
    let third = value-any nothing_more in
    rw (dynamic-shape, inner, first, second, third) refl

abbrev resolved-queue : Ior → Option Any → List Property
resolved-queue e v = resolved (under (codes "Queue") v ∷ []) (content_by e ∷ [])

with-value : (e : Ior) (v : Any) → resolved-queue e (Some v) ≡ queue v ∷ []
unfolding resolved
with-value e v = rw dynamic-shape refl

without-value : (e : Ior) → resolved-queue e None ≡ []
unfolding resolved
without-value e = rw dynamic-shape refl

queue-ranked : (e : Ior) (word : ℕ → ℕ) (v : Option Any) (properties : List Property)
    → resolved-queue e v ≡ properties → IsRankedAnswer (over_queue e) (gathered-queue e v) word (one_offer properties)
queue-ranked e word v properties is = record {
  ranked = (one_offer properties).offers;
  in_order = ap (λ (ps : List Property). (one_offer ps).offers) (sym is);
  cut = refl;
  limits = refl;
}

valued : (e : Ior) (p : Iiop) (v : Any) → iiop_of e ≡ Some p → may_stand (content e) v ≡ true
    → value_from (content e) (answer.Evaluated v) ≡ Some v
unfolding value_from
valued e p v reached stands =
    let both : is_some (iiop_of e) && may_stand (content e) v ≡ true =
    ap (λ (o : Option Iiop). is_some o && may_stand (content e) v) reached ∙ stands in
    ap (λ (b : Bool). if b then Some v else None) both

no-value : (e : Ior) → value_from (content e) answer.Failed ≡ None
unfolding value_from
no-value e = refl

-- the visit of such an offer: its one evaluation gave this
over-queue : (word : ℕ → ℕ) (e : Ior) (t : List TraceItem) (a : StepAnswer) (properties : List Property)
    (calls : List Exchange)
    → Step (BeginsIn (alike (Search (over_queue e)))) nowhere (course word 1 [])
    (Evaluate e (codes "Queue") code.ULong nothing_more) t a (course word 1 calls)
    → resolved-queue e (value_from (content e) a) ≡ properties
    → FirstQueryGives (alike (Search (over_queue e))) nowhere word (item.Search 0 0 1 ∷ (t ++ []) ++ item.Leave ∷ [])
    (answers (one_offer properties)) 1 calls
over-queue word e t a properties calls step is =
    one-question (alike (Search (over_queue e))) nowhere word (Search (over_queue e)) (over_queue e)
    (item.Search 0 0 1) (Evaluate e (codes "Queue") code.ULong nothing_more) t a
    (gathered-queue e (value_from (content e) a)) (one_offer properties) 1 calls refl searching (next-queue e) step
    (visit-queue e a) refl (queue-ranked e word (value_from (content e) a) properties is)

no-profile : iiop_of nobody ≡ None
unfolding first_iiop
no-profile = refl

-- ---- the examples

on-the-way : (word : ℕ → ℕ)
    → FirstQueryGives (alike (Path along)) nowhere word (item.Path 0 0 ∷ item.Outside given_there ∷ item.Leave ∷ [])
    (answers given_there) 1 (one_call (Querying elsewhere (path_query along)) (Replied given_there))
on-the-way word =
    one-question (alike (Path along)) nowhere word (Path along) along (item.Path 0 0)
    (Forward elsewhere (path_query along)) (item.Outside given_there ∷ []) (answer.Offers given_there)
    (record { found = []; given = given_there ∷ [] }) given_there 1
    (one_call (Querying elsewhere (path_query along)) (Replied given_there)) refl passing next-along
    (outside refl far_small)
    visit-along refl
    (record { ranked = given_there.offers; in_order = refl; cut = refl; limits = refl })

-- the second trader's visit
inner : (word : ℕ → ℕ)
    → Walk (BeginsIn (group (Search (over Always [])) (Search (search [] [])))) at_second (course word 1 []) 1
    (link_query (over Always []) (Some 1000) (link Always)) (item.Search 1 0 1 ∷ item.Leave ∷ []) (answers no_offers)
    (course word 2 [])
inner word =
    let last : EndsVisit (course word 2 []) (search [] []) [] no_offers (course word 2 []) =
    ended (search [] []) [] (record { found = []; given = [] }) no_offers word 2 [] visit-alone refl
    (record { ranked = []; in_order = refl; cut = refl; limits = refl }) in
    let none : Steps (BeginsIn (group (Search (over Always [])) (Search (search [] [])))) at_second (course word 2 [])
    (search [] []) [] [] [] (course word 2 []) = done last.done in
    asking refl searching none last

within : (word : ℕ → ℕ)
    → FirstQueryGives (group (Search (over Always [])) (Search (search [] []))) at_second word
    (item.Search 0 0 1 ∷ item.Search 1 0 1 ∷ item.Leave ∷ item.Leave ∷ []) (answers no_offers) 2 []
within word =
    one-question (group (Search (over Always [])) (Search (search [] []))) at_second word (Search (over Always []))
    (over Always []) (item.Search 0 0 1) (Forward elsewhere (link_query (over Always []) (Some 1000) (link Always)))
    (item.Search 1 0 1 ∷ item.Leave ∷ []) (answer.Offers no_offers) (record { found = []; given = no_offers ∷ [] }) no_offers
    2 [] refl searching next-over-none (visited refl (inner word)) visit-over-none refl
    (record { ranked = []; in_order = refl; cut = refl; limits = refl })

plain-ranked : (word : ℕ → ℕ)
    → IsRankedAnswer (over Always (plain ∷ []))
    (record { found = record { offer = plain; made = [] } ∷ []; given = no_offers ∷ [] }) word (one_offer [])
unfolding resolved
plain-ranked word = record { ranked = (one_offer []).offers; in_order = refl; cut = refl; limits = refl }

without-answer : (word : ℕ → ℕ)
    → FirstQueryGives (alike (Search (over Always (plain ∷ [])))) nowhere word
    (item.Search 0 0 1 ∷ item.Failed fault.Wire ∷ item.Leave ∷ []) (answers (one_offer [])) 1
    (one_call (Querying elsewhere (link_query (over Always (plain ∷ [])) (Some 999) (link Always))) (Missed fault.Wire))
without-answer word =
    one-question (alike (Search (over Always (plain ∷ [])))) nowhere word (Search (over Always (plain ∷ [])))
    (over Always (plain ∷ [])) (item.Search 0 0 1)
    (Forward elsewhere (link_query (over Always (plain ∷ [])) (Some 999) (link Always))) (item.Failed fault.Wire ∷ [])
    answer.Failed (record { found = record { offer = plain; made = [] } ∷ []; given = no_offers ∷ [] }) (one_offer []) 1
    (one_call (Querying elsewhere (link_query (over Always (plain ∷ [])) (Some 999) (link Always))) (Missed fault.Wire)) refl
    searching next-over-plain (no_memory_with refl refl) visit-over-plain refl (plain-ranked word)

pub worked : (word : ℕ → ℕ) → WorkedWalks word
worked word = record {
  refusal = λ o. refused refl;
  repetition = repeat refl;
  on_the_way = on-the-way word;
  within = within word;
  without_answer = without-answer word;
  evaluation = λ e p v reached stands.
      over-queue word e (item.Evaluated v ∷ []) (answer.Evaluated v) (queue v ∷ []) (one_call (evaluate_queue e) (Valued v))
      (evaluated {p = p} reached)
      (ap (resolved-queue e) (valued e p v reached stands) ∙ with-value e v);
  failed_evaluation = λ e p reached.
      over-queue word e (item.Failed fault.Exception ∷ []) answer.Failed []
      (one_call (evaluate_queue e) (Missed fault.Exception)) (unevaluated {p = p} reached refl)
      (ap (resolved-queue e) (no-value e) ∙ without-value e);
  without_profile =
      over-queue word nobody (item.Unreachable ∷ []) answer.Failed [] [] (unreachable no-profile)
      (ap (resolved-queue nobody) (no-value nobody) ∙ without-value nobody);
}

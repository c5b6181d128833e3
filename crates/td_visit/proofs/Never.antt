-- No question to another trader is the end.
use Rattle.std.proofs.Common.{◌≡◌, ℕ, Bool, true, false, List, [], ◌∷◌, ◌++◌, map, Option, Some, None, Ok, Err, refl}
use Rattle.std.proofs.Common.{◌&&◌, subst, ◌∙◌, if◌then◌else◌, option_map, not}
use Rattle.std.specs.List.{AllByRecursion, list_any}
use Rattle.td_cdr.specs.Format.{◌>>=◌}
use Rattle.td_store.specs.declared.local.Local.{Local}
use Rattle.td_store.specs.declared.record.LinkRecord.{LinkRecord}
use Rattle.td_store.specs.declared.record.OfferRecord.{OfferRecord}
use Rattle.td_store.specs.declared.record.ProxyPart.{ProxyPart}
use Rattle.td_visit.specs.Resuming.{steps_by, wanted_by}
use Rattle.td_walk.specs.SubQueries.{link_step, link_query, is_full, follows, proxy_step, proxy_call, proxy_query}
use Rattle.td_walk.specs.SubQueries.{has_hops, expansion_of, path_query}
use Rattle.td_walk.specs.Visits.{AnswersRead, Step, less, take_step, forward_steps, is_ordinary, path_step, steps}
use Rattle.td_walk.specs.Visits.{sub_answer}
use Rattle.td_walk.specs.declared.answer.Next.{Next}
use Rattle.td_walk.specs.declared.answer.Next.TheVariants.{Done, Forward}
use Rattle.td_walk.specs.declared.answer.StepAnswer.{StepAnswer}
use Rattle.td_walk.specs.declared.answer.SubAnswer.{SubAnswer}
use Rattle.td_walk.specs.declared.found.Found.{Found}

abbrev NotDone : Next → Type 0
NotDone q = q ≡ Done → ⊥

-- whatever is still wanted, what the step asks isn't the end
abbrev Asks : Step → Type 0
Asks step = (wanted : Option ℕ) (q : Next) → step wanted ≡ Some q → NotDone q

-- ---- steps

all-steps : {X : Type 0} (step : X → Step) → ((x : X) → Asks (step x)) → (xs : List X) → AllByRecursion Asks (map step xs)
all-steps step h [] = tt
all-steps step h (x ∷ xs) = (h x, all-steps step h xs)

all-joined : (ss ts : List Step) → AllByRecursion Asks ss → AllByRecursion Asks ts → AllByRecursion Asks (ss ++ ts)
all-joined [] ts h k = k
all-joined (s ∷ ss) ts h k = (h.0, all-joined ss ts h.1 k)

link-asks : (l : Local) (local_match : Bool) (link : LinkRecord) (wanted : Option ℕ) (q : Next)
    → link_step l wanted local_match link ≡ Some q → NotDone q
unfolding link_step
link-asks l local_match link wanted q e last = by_rule (not (is_full wanted) && follows l local_match link) e
  where
    by_rule : (b : Bool) → (if b then Some (Forward link.target (link_query l wanted link)) else None) ≡ Some q → ⊥
    by_rule true e =
        let s : Forward link.target (link_query l wanted link) ≡ q = cc in
        let t : Forward link.target (link_query l wanted link) ≡ Done = s ∙ last in
        absurd cc
    by_rule false e = absurd cc

proxy-asks : (l : Local) (o : OfferRecord) (wanted : Option ℕ) (q : Next) → proxy_step l wanted o ≡ Some q → NotDone q
unfolding proxy_step
proxy-asks l o wanted q e last = by_part o.proxy e
  where
    by_text : (part : ProxyPart) (t : Option (List ℕ))
        → option_map (λ (text : List ℕ). Forward o.reference (proxy_query l wanted part text)) t ≡ Some q → ⊥
    by_text part None e = absurd cc
    by_text part (Some text) e =
        let s : Forward o.reference (proxy_query l wanted part text) ≡ q = cc in
        let t : Forward o.reference (proxy_query l wanted part text) ≡ Done = s ∙ last in
        absurd cc

    by_hops : (part : ProxyPart) (b : Bool)
        → (if b then option_map (λ (text : List ℕ). Forward o.reference (proxy_query l wanted part text))
        (expansion_of l.query.constraint o part) else None) ≡ Some q → ⊥
    by_hops part true e = by_text part (expansion_of l.query.constraint o part) e
    by_hops part false e = absurd cc

    by_part : (p : Option ProxyPart) → proxy_call l wanted o p ≡ Some q → ⊥
    by_part None e = absurd cc
    by_part (Some part) e = by_hops part (not (is_full wanted) && has_hops l) e

steps-ask : (l : Local) (found : List Found) → AllByRecursion Asks (steps l found)
unfolding steps
steps-ask l found =
    let any : Bool = list_any (λ (f : Found). is_ordinary f.offer) found in
    all-joined (map (λ (f : Found) (wanted : Option ℕ). proxy_step l wanted f.offer) found)
    (map (λ (link : LinkRecord) (wanted : Option ℕ). link_step l wanted any link) l.links)
    (all-steps (λ (f : Found) (wanted : Option ℕ). proxy_step l wanted f.offer) (λ f. proxy-asks l f.offer) found)
    (all-steps (λ (link : LinkRecord) (wanted : Option ℕ). link_step l wanted any link) (link-asks l any) l.links)

path-asks : (l : Local) (link : LinkRecord) → Asks (path_step l link)
path-asks l link wanted q e last =
    let s : Forward link.target (path_query l) ≡ q = cc in
    let t : Forward link.target (path_query l) ≡ Done = s ∙ last in
    absurd cc

all-ask : (path : Option LinkRecord) (l : Local) (found : List Found) → AllByRecursion Asks (steps_by path l found)
all-ask None l found = steps-ask l found
all-ask (Some link) l found = (path-asks l link, tt)

-- ---- the question at which the asking stops

abbrev given_first : StepAnswer → AnswersRead (List SubAnswer) → AnswersRead (List SubAnswer)
given_first a r = r >>= λ s. Ok (sub_answer a ∷ s.0, s.1)

first-asks : (ss : List Step) (wanted : Option ℕ) (answers : List StepAnswer) (q : Next) → AllByRecursion Asks ss
    → forward_steps wanted ss answers ≡ Err q → NotDone q
first-asks [] wanted answers q h e = absurd cc
first-asks (step ∷ ss) wanted answers q h e =
    by_step (λ w xs p is. first-asks ss w xs p h.1 is) (step wanted) refl answers e
  where
    by_rest : ((w : Option ℕ) (xs : List StepAnswer) (p : Next) → forward_steps w ss xs ≡ Err p → NotDone p)
        → (a : StepAnswer) (xs : List StepAnswer) (r : AnswersRead (List SubAnswer))
        → forward_steps (less wanted (sub_answer a)) ss xs ≡ r → given_first a r ≡ Err q → NotDone q
    by_rest below a xs (Ok s) is e = absurd cc
    by_rest below a xs (Err p) is e =
        let same : p ≡ q = cc in subst NotDone same (below (less wanted (sub_answer a)) xs p is)

    by_step : ((w : Option ℕ) (xs : List StepAnswer) (p : Next) → forward_steps w ss xs ≡ Err p → NotDone p)
        → (o : Option Next) → step wanted ≡ o → (xs : List StepAnswer)
        → take_step o (λ a. forward_steps (less wanted a) ss) (forward_steps wanted ss) xs ≡ Err q → NotDone q
    by_step below None is xs e = below wanted xs q e
    by_step below (Some p) is [] e = let same : p ≡ q = cc in subst NotDone same (h.0 wanted p is)
    by_step below (Some p) is (a ∷ xs) e =
        by_rest below a xs (forward_steps (less wanted (sub_answer a)) ss xs) refl e

pub asked : (path : Option LinkRecord) (l : Local) (found : List Found) (answers : List StepAnswer) (q : Next)
    → forward_steps (wanted_by path l found) (steps_by path l found) answers ≡ Err q → q ≡ Done → ⊥
asked path l found answers q e = first-asks (steps_by path l found) (wanted_by path l found) answers q (all-ask path l found) e

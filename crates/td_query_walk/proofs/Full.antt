-- Gathering stops once enough offers are there, and what it leaves out would be cut.
use Rattle.std.proofs.Common.{◌≡◌, ℕ, zero, suc, ◌-◌, ◌≤◌, Bool, true, List, [], ◌∷◌, ◌++◌, length, take, map}
use Rattle.std.proofs.Common.{Option, Some, None, Ok, refl, sym, ap, ◌∙◌, arith, not, ◌&&◌, if◌then◌else◌}
use Rattle.std.proofs.Common.{append_assoc, option_map}
use Rattle.std.proofs.lemmas.Grind.{flat_map-append}
use Rattle.std.proofs.lemmas.List.{take-append-le}
use Rattle.std.specs.List.{AllByRecursion, flat_map, list_any}
use Rattle.td_cdr.specs.Format.{◌>>=◌}
use Rattle.td_eval.specs.Ranking.{IsRanked}
use Rattle.td_lang.specs.declared.expr.Preference.{Preference}
use Rattle.td_lang.specs.declared.expr.Preference.TheVariants as preference
use Rattle.td_store.specs.declared.local.Local.{Local}
use Rattle.td_store.specs.declared.record.LinkRecord.{LinkRecord}
use Rattle.td_store.specs.declared.record.OfferRecord.{OfferRecord}
use Rattle.td_store.specs.declared.record.ProxyPart.{ProxyPart}
use Rattle.td_value.specs.declared.structures.Offer.{Offer}
use Rattle.td_walk.specs.Answers.{IsRankedAnswer, joined_offers, own_offers}
use Rattle.td_walk.specs.SubQueries.{follows, has_hops, is_full, keeps_order, link_query, link_step, proxy_call}
use Rattle.td_walk.specs.SubQueries.{expansion_of, proxy_query, proxy_step, wanted_behind}
use Rattle.td_walk.specs.Visits.{AnswersRead, Step, count_ordinary, forward_steps, gathered_offers, is_ordinary, less}
use Rattle.td_walk.specs.Visits.{take_step, steps}
use Rattle.td_walk.specs.declared.answer.Next.{Next}
use Rattle.td_walk.specs.declared.answer.Next.TheVariants.{Forward}
use Rattle.td_walk.specs.declared.answer.StepAnswer.{StepAnswer}
use Rattle.td_walk.specs.declared.answer.SubAnswer.{SubAnswer}
use Rattle.td_walk.specs.declared.found.Found.{Found}
use Rattle.td_walk.specs.declared.gathering.Gathered.{Gathered}

-- ---- nobody is asked

pub full-link : (l : Local) (wanted : Option ℕ) (local_match : Bool) (link : LinkRecord) → is_full wanted ≡ true
    → link_step l wanted local_match link ≡ None
unfolding link_step
full-link l wanted local_match link full =
    ap (λ (b : Bool). if not b && follows l local_match link then Some (Forward link.target (link_query l wanted link))
    else None) full

pub full-proxy : (l : Local) (wanted : Option ℕ) (o : OfferRecord) → is_full wanted ≡ true
    → proxy_step l wanted o ≡ None
unfolding proxy_step
full-proxy l wanted o full = by_part o.proxy
  where
    by_part : (p : Option ProxyPart) → proxy_call l wanted o p ≡ None
    by_part None = refl
    by_part (Some part) =
        ap (λ (b : Bool). if not b && has_hops l then
        option_map (λ (text : List ℕ). Forward o.reference (proxy_query l wanted part text))
        (expansion_of l.query.constraint o part) else None) full

-- a step that asks nobody, where so much is wanted
abbrev AsksNobody : Option ℕ → Step → Type 0
AsksNobody wanted step = step wanted ≡ None

none-forwarded : (wanted : Option ℕ) (ss : List Step) (answers : List StepAnswer)
    → AllByRecursion (AsksNobody wanted) ss → forward_steps wanted ss answers ≡ Ok ([], answers)
none-forwarded wanted [] answers h = refl
none-forwarded wanted (step ∷ ss) answers h =
    ap (λ (o : Option Next). take_step o (λ a. forward_steps (less wanted a) ss) (forward_steps wanted ss) answers) h.0
    ∙ none-forwarded wanted ss answers h.1

all-nobody : {X : Type 0} (wanted : Option ℕ) (step : X → Step) → ((x : X) → AsksNobody wanted (step x))
    → (xs : List X) → AllByRecursion (AsksNobody wanted) (map step xs)
all-nobody wanted step h [] = tt
all-nobody wanted step h (x ∷ xs) = (h x, all-nobody wanted step h xs)

both-nobody : (wanted : Option ℕ) (ss ts : List Step) → AllByRecursion (AsksNobody wanted) ss
    → AllByRecursion (AsksNobody wanted) ts → AllByRecursion (AsksNobody wanted) (ss ++ ts)
both-nobody wanted [] ts h k = k
both-nobody wanted (s ∷ ss) ts h k = (h.0, both-nobody wanted ss ts h.1 k)

steps-nobody : (l : Local) (found : List Found) (wanted : Option ℕ) → is_full wanted ≡ true
    → AllByRecursion (AsksNobody wanted) (steps l found)
unfolding steps
steps-nobody l found wanted full =
    let any : Bool = list_any (λ (f : Found). is_ordinary f.offer) found in
    both-nobody wanted _ _
    (all-nobody wanted (λ (f : Found) (w : Option ℕ). proxy_step l w f.offer)
    (λ f. full-proxy l wanted f.offer full) found)
    (all-nobody wanted (λ (link : LinkRecord) (w : Option ℕ). link_step l w any link)
    (λ link. full-link l wanted any link full) l.links)

some-full : (n : ℕ) → n ≡ 0 → is_full (Some n) ≡ true
some-full zero e = refl
some-full (suc n) e = absurd (omega (arith, e))

enough-full : (l : Local) (n : ℕ) → keeps_order l.preference ≡ true → l.effective.return_card ≤ n
    → is_full (wanted_behind l n) ≡ true
enough-full l n order enough =
    ap (λ (b : Bool). is_full (if b then Some (l.effective.return_card - n) else None)) order
    ∙ some-full (l.effective.return_card - n) (omega (arith, enough))

pub nobody-asked : (l : Local) (found : List Found) (answers : List StepAnswer) → keeps_order l.preference ≡ true
    → l.effective.return_card ≤ count_ordinary found
    → gathered_offers found answers (wanted_behind l (count_ordinary found)) (steps l found)
    ≡ Ok (record { found = found; given = [] }, answers)
nobody-asked l found answers order enough =
    ap (λ (r : AnswersRead (List SubAnswer)). r >>= λ s. Ok (record { found = found; given = s.0 }, s.1))
    (none-forwarded (wanted_behind l (count_ordinary found)) (steps l found) answers
    (steps-nobody l found (wanted_behind l (count_ordinary found)) (enough-full l (count_ordinary found) order enough)))

-- ---- what more would give is cut

in-order : (p : Preference) (word : ℕ → ℕ) (offers ranked : List Offer) → keeps_order p ≡ true
    → IsRanked p word offers ranked → ranked ≡ offers
in-order preference.Empty word offers ranked order h = h
in-order preference.First word offers ranked order h = h
in-order preference.Random word offers ranked order h = absurd cc
in-order (preference.Min e) word offers ranked order h = absurd cc
in-order (preference.Max e) word offers ranked order h = absurd cc
in-order (preference.With e) word offers ranked order h = absurd cc

abbrev with_given : List Found → List SubAnswer → Gathered
with_given found given = record { found = found; given = given }

pub cut-anyway : (l : Local) (found : List Found) (given more : List SubAnswer) (word : ℕ → ℕ) (a b : SubAnswer)
    → keeps_order l.preference ≡ true → l.effective.return_card ≤ length (joined_offers (with_given found given))
    → IsRankedAnswer l (with_given found given) word a → IsRankedAnswer l (with_given found (given ++ more)) word b
    → b.offers ≡ a.offers
cut-anyway l found given more word a b order enough h k =
    let here : List Offer = joined_offers (with_given found given) in
    let further : List Offer = flat_map (λ (x : SubAnswer). x.offers) more in
    let all : joined_offers (with_given found (given ++ more)) ≡ here ++ further =
    ap (λ (os : List Offer). own_offers found ++ os) (flat_map-append (λ (x : SubAnswer). x.offers) given more)
    ∙ sym (append_assoc (own_offers found) (flat_map (λ (x : SubAnswer). x.offers) given) further) in
    let one : h.ranked ≡ here = in-order l.preference word here h.ranked order h.in_order in
    let two : k.ranked ≡ here ++ further =
    in-order l.preference word (joined_offers (with_given found (given ++ more))) k.ranked order k.in_order ∙ all in
    k.cut ∙ ap (take l.effective.return_card) two
    ∙ take-append-le l.effective.return_card here further enough
    ∙ sym (h.cut ∙ ap (take l.effective.return_card) one)

-- What nothing adds to an answer, and that a visit has one answer.
use Rattle.std.proofs.Common.{◌≡◌, ℕ, Bool, false, ◌||◌, List, [], ◌∷◌, ◌++◌, Ok, Err, refl, sym, ap, ◌∙◌, codes}
use Rattle.std.proofs.Common.{if◌then◌else◌, take}
use Rattle.std.specs.List.{flat_map, list_any}
use Rattle.td_cdr.specs.Seen.{is_among}
use Rattle.td_eval.specs.Ranking.{IsArranged, IsRanked}
use Rattle.td_lang.specs.declared.expr.Preference.{Preference}
use Rattle.td_lang.specs.declared.expr.Preference.TheVariants as preference
use Rattle.td_store.specs.declared.local.Local.{Local}
use Rattle.td_value.specs.declared.structures.Offer.{Offer}
use Rattle.td_walk.specs.Answers.{joined_offers, own_offers, limit, limits_applied, IsRankedAnswer}
use Rattle.td_walk.specs.Answers.{AnswersGathered, IsAnswer}
use Rattle.td_walk.specs.Visits.{AnswersRead, visit_of}
use Rattle.td_walk.specs.declared.answer.StepAnswer.{StepAnswer}
use Rattle.td_walk.specs.declared.answer.SubAnswer.{SubAnswer}
use Rattle.td_walk.specs.declared.found.Found.{Found}
use Rattle.td_walk.specs.declared.gathering.Gathered.{Gathered}
use Rattle.td_query_walk.specs.Answering.{nothing_given}

-- ---- nothing adds nothing

abbrev offers_of : SubAnswer → List Offer
offers_of a = a.offers

same-offers : (before after : List SubAnswer)
    → flat_map offers_of (before ++ nothing_given ∷ after) ≡ flat_map offers_of (before ++ after)
same-offers [] after = refl
same-offers (a ∷ before) after = ap (λ (os : List Offer). a.offers ++ os) (same-offers before after)

pub no_offers : (found : List Found) (before after : List SubAnswer)
    → joined_offers (record { found = found; given = before ++ nothing_given ∷ after })
    ≡ joined_offers (record { found = found; given = before ++ after })
no_offers found before after = ap (λ (os : List Offer). own_offers found ++ os) (same-offers before after)

same-test : (f : SubAnswer → Bool) → f nothing_given ≡ false → (before after : List SubAnswer)
    → list_any f (before ++ nothing_given ∷ after) ≡ list_any f (before ++ after)
same-test f none [] after = rw none refl
same-test f none (a ∷ before) after = ap (λ (b : Bool). f a || b) (same-test f none before after)

same-limit : (over : List (List ℕ)) (before after : List SubAnswer) (name : List ℕ)
    → limit over (before ++ nothing_given ∷ after) name ≡ limit over (before ++ after) name
same-limit over before after name =
    ap (λ (b : Bool). if is_among name over || b then name ∷ [] else [])
    (same-test (λ (a : SubAnswer). is_among name a.limits) refl before after)

pub no_limits : (over : List (List ℕ)) (before after : List SubAnswer)
    → limits_applied over (before ++ nothing_given ∷ after) ≡ limits_applied over (before ++ after)
no_limits over before after =
    rw (
      same-limit over before after (codes "hop_count"),
      same-limit over before after (codes "link_follow_rule"),
      same-limit over before after (codes "match_card"),
      same-limit over before after (codes "return_card"),
      same-limit over before after (codes "search_card"),
    ) refl

-- ---- one answer, since there is one arrangement

abbrev HasOneArrangement : Type 0
HasOneArrangement = (p : Preference) (offers xs ys : List Offer) → IsArranged p offers xs → IsArranged p offers ys
    → xs ≡ ys

one-ranking : HasOneArrangement → (p : Preference) (word : ℕ → ℕ) (offers xs ys : List Offer)
    → IsRanked p word offers xs
    → IsRanked p word offers ys → xs ≡ ys
one-ranking one preference.Empty word offers xs ys a b = a ∙ sym b
one-ranking one preference.First word offers xs ys a b = a ∙ sym b
one-ranking one preference.Random word offers xs ys a b = a ∙ sym b
one-ranking one (preference.Min e) word offers xs ys a b = one (preference.Min e) offers xs ys a b
one-ranking one (preference.Max e) word offers xs ys a b = one (preference.Max e) offers xs ys a b
one-ranking one (preference.With e) word offers xs ys a b = one (preference.With e) offers xs ys a b

same-answer : (a b : SubAnswer) → a.offers ≡ b.offers → a.limits ≡ b.limits → a ≡ b
same-answer a b offers limits = rw (offers, limits) refl

one-cut : HasOneArrangement → (l : Local) (g : Gathered) (word : ℕ → ℕ) (a b : SubAnswer) → IsRankedAnswer l g word a
    → IsRankedAnswer l g word b → a ≡ b
one-cut one l g word a b h k =
    let ranked : h.ranked ≡ k.ranked =
    one-ranking one l.preference word (joined_offers g) h.ranked k.ranked h.in_order k.in_order in
    let offers : a.offers ≡ b.offers = h.cut ∙ ap (take l.effective.return_card) ranked ∙ sym k.cut in
    let limits : a.limits ≡ b.limits = h.limits ∙ sym k.limits in
    same-answer a b offers limits

pub one_answer : HasOneArrangement → (l : Local) (answers : List StepAnswer) (word : ℕ → ℕ) (a b : SubAnswer)
    → IsAnswer l answers word a
    → IsAnswer l answers word b → a ≡ b
unfolding IsAnswer
one_answer one l answers word a b h k = by_visit (visit_of l answers) h k
  where
    by_visit : (r : AnswersRead Gathered) → AnswersGathered l r word a → AnswersGathered l r word b → a ≡ b
    by_visit (Ok r) h k = one-cut one l r.0 word a b h k
    by_visit (Err q) h k = elim h [ ]

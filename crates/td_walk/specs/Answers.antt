-- What a visit answers (OMG's Trading Object Service, interface Lookup, query, limits_applied; "Preferences").
use Rattle.std.specs.Prelude.{◌≡◌, ℕ, ◌+◌, Bool, ◌||◌, List, [], ◌∷◌, ◌++◌, map, filter, take, length, codes, Ok, Err}
use Rattle.std.specs.Prelude.{if◌then◌else◌}
use Rattle.std.specs.List.{flat_map, list_any}
use Rattle.td_cdr.specs.Seen.{is_among}
use Rattle.td_eval.specs.Ranking.{IsRanked, draw_count}
use Rattle.td_store.specs.declared.local.Local.{Local}
use Rattle.td_value.specs.declared.structures.Offer.{Offer}
use Rattle.td_walk.specs.Resolving.{resolved}
use Rattle.td_walk.specs.Visits.{AnswersRead, is_ordinary, visit_of}
use Rattle.td_walk.specs.declared.answer.StepAnswer.{StepAnswer}
use Rattle.td_walk.specs.declared.answer.SubAnswer.{SubAnswer}
use Rattle.td_walk.specs.declared.found.Found.{Found}
use Rattle.td_walk.specs.declared.gathering.Gathered.{Gathered}

abbrev pub offer_of : Found → Offer
offer_of f = record {
  reference = f.offer.reference;
  properties = resolved f.made f.offer.properties;
}

-- the ordinary offers that matched, as resolved
abbrev pub own_offers : List Found → List Offer
own_offers found = map offer_of (filter (λ f. is_ordinary f.offer) found)

-- and then those of the other traders in the order of asking
abbrev pub joined_offers : Gathered → List Offer
joined_offers g = own_offers g.found ++ flat_map (λ a. a.offers) g.given

-- the policy is stated above this trader's maximum, or another trader names it
abbrev pub is_limit : (over : List (List ℕ)) → List SubAnswer → (name : List ℕ) → Bool
is_limit over given name = is_among name over || list_any (λ a. is_among name a.limits) given

abbrev pub limit : (over : List (List ℕ)) → List SubAnswer → (name : List ℕ) → List (List ℕ)
limit over given name = if is_limit over given name then name ∷ [] else []

-- the policies that limited a query, in order
abbrev pub limits_applied : (over : List (List ℕ)) → List SubAnswer → List (List ℕ)
limits_applied over given =
    limit over given (codes "hop_count")
    ++ limit over given (codes "link_follow_rule")
    ++ limit over given (codes "match_card")
    ++ limit over given (codes "return_card")
    ++ limit over given (codes "search_card")

-- how many words the ranking draws
abbrev pub drawn_by : Local → Gathered → ℕ
drawn_by l g = draw_count l.preference (length (joined_offers g))

-- ranked by these words, and cut
pub record IsRankedAnswer (l : Local) (g : Gathered) (word : ℕ → ℕ) (a : SubAnswer) : Type 0 where
  pub ranked : List Offer
  pub in_order : IsRanked l.preference word (joined_offers g) ranked
  pub cut : a.offers ≡ take l.effective.return_card ranked
  pub limits : a.limits ≡ limits_applied l.effective.over g.given

abbrev pub AnswersGathered : Local → AnswersRead Gathered → (word : ℕ → ℕ) → SubAnswer → Type 0
AnswersGathered l (Ok r) word a = IsRankedAnswer l r.0 word a
AnswersGathered l (Err question) word a = ⊥

-- the answer of a visit, once all its questions were answered
unfoldable pub IsAnswer : Local → List StepAnswer → (word : ℕ → ℕ) → SubAnswer → Type 0
IsAnswer l answers word a = AnswersGathered l (visit_of l answers) word a

abbrev pub DrawsGathered : Local → AnswersRead Gathered → (before after : ℕ → ℕ) → Type 0
DrawsGathered l (Ok r) before after = (k : ℕ) → after k ≡ before (k + drawn_by l r.0)
DrawsGathered l (Err question) before after = ⊥

-- the words that the ranking of a visit's answer drew are gone, and no others
unfoldable pub HasDrawn : Local → List StepAnswer → (before after : ℕ → ℕ) → Type 0
HasDrawn l answers before after = DrawsGathered l (visit_of l answers) before after

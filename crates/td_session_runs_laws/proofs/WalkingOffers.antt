-- Offers with the properties that evaluations left, and that a query asks for: they can be written where those that
-- they are made of can be.
use Rattle.std.proofs.Common.{ℕ, Bool, true, false, cond, List, length, filter, Option, Some, None, option_map}
use Rattle.std.specs.List.{AllByRecursion, filter_map, flat_map}
use Rattle.std.specs.Option.{option_and_then}
use Rattle.std.specs.Str.{bytes_eq}
use Rattle.td_cdr.specs.Sound.{sequence, text}
use Rattle.td_typecode.specs.Values.{any_value}
use Rattle.td_typecode.specs.declared.code.Any.{Any}
use Rattle.td_eval.proofs.Arranged.{same_offers}
use Rattle.td_eval.specs.Ranking.{IsRanked}
use Rattle.td_lang.specs.declared.expr.Preference.{Preference}
use Rattle.td_store.specs.Candidates.{is_dynamic}
use Rattle.td_store.specs.Stores.{IsOffer}
use Rattle.td_types.proofs.Sequences.{each-append, each-filter, each-flat, each-map, sequence-each, sequence-from}
use Rattle.td_value.specs.Structures.{offer, property}
use Rattle.td_value.specs.declared.structures.Offer.{Offer}
use Rattle.td_value.specs.declared.structures.Property.{Property}
use Rattle.td_walk.specs.Answers.{joined_offers, offer_of, own_offers}
use Rattle.td_walk.specs.Resolving.{evaluation_of, resolved, resolved_property, resolved_value}
use Rattle.td_walk.specs.Visits.{is_ordinary}
use Rattle.td_walk.specs.declared.answer.SubAnswer.{SubAnswer}
use Rattle.td_walk.specs.declared.evaluation.Evaluation.{Evaluation}
use Rattle.td_walk.specs.declared.found.Found.{Found}
use Rattle.td_walk.specs.declared.gathering.Gathered.{Gathered}
use Rattle.td_session_runs_laws.proofs.WalkingItems.{IfThere, each-mapped, each-permuted, mapped-length, no-longer}
use Rattle.td_session_runs_laws.proofs.WalkingItems.{there-found}

-- ---- what evaluations leave

abbrev pub IsWritableValue : Option Any → Type 0
IsWritableValue o = IfThere any_value.format.admits o

-- the value that was evaluated, if there is one, can be written
abbrev pub IsWritableEvaluation : Evaluation → Type 0
IsWritableEvaluation e = IsWritableValue e.value

abbrev pub AreWritableEvaluations : List Evaluation → Type 0
AreWritableEvaluations made = AllByRecursion IsWritableEvaluation made

value-left : (o : Option Evaluation) → IfThere IsWritableEvaluation o
    → IsWritableValue (option_and_then (λ e. e.value) o)
value-left None h = tt
value-left (Some e) h = h

value-when : (b : Bool) (o : Option Any) (v : Any) → IsWritableValue o → any_value.format.admits v
    → IsWritableValue (cond b o (Some v))
value-when true o v h k = h
value-when false o v h k = k

value-resolved : (made : List Evaluation) (p : Property) → AreWritableEvaluations made → property.format.admits p
    → IsWritableValue (resolved_value made p)
value-resolved made p h a =
    value-when (is_dynamic p.value) (option_and_then (λ e. e.value) (evaluation_of made p.name)) p.value
    (value-left (evaluation_of made p.name) (there-found IsWritableEvaluation (λ e. bytes_eq e.name p.name) made h))
    a.1

value-named : (name : List ℕ) (o : Option Any) → text.format.admits name → IsWritableValue o
    → IfThere property.format.admits (option_map (λ v. record { name = name; value = v }) o)
value-named name None n h = tt
value-named name (Some v) n h = (n, h)

pub properties-resolved : (made : List Evaluation) (properties : List Property) → AreWritableEvaluations made
    → (sequence property).format.admits properties → (sequence property).format.admits (resolved made properties)
unfolding resolved
properties-resolved made properties h k =
    let left = filter_map (resolved_property made) properties in
    let each =
    each-mapped property.format.admits property.format.admits (resolved_property made) properties
    (λ p a. value-named p.name (resolved_value made p) a.0 (value-resolved made p h a))
    (sequence-each property properties k) in
    sequence-from property left
    (no-longer (length left) (length properties) (mapped-length (resolved_property made) properties) k.0) each

-- ---- what a visit gathers

-- an offer of a store, and what its evaluations gave, can be written
pub record IsWritableFound (f : Found) : Type 0 where
  pub offer : IsOffer f.offer
  pub made : AreWritableEvaluations f.made

-- the offers that another trader gave
abbrev pub AreOffers : SubAnswer → Type 0
AreOffers a = AllByRecursion offer.format.admits a.offers

pub record IsWritableGathering (g : Gathered) : Type 0 where
  pub found : AllByRecursion IsWritableFound g.found
  pub given : AllByRecursion AreOffers g.given

offer-resolved : (f : Found) → IsWritableFound f → offer.format.admits (offer_of f)
offer-resolved f h = (
  h.offer.admitted.info.0,
  properties-resolved f.made f.offer.properties h.made h.offer.admitted.info.1.1,
)

own-admitted : (found : List Found) → AllByRecursion IsWritableFound found
    → AllByRecursion offer.format.admits (own_offers found)
own-admitted found h =
    each-map IsWritableFound offer.format.admits offer_of (filter (λ f. is_ordinary f.offer) found) offer-resolved
    (each-filter IsWritableFound (λ f. is_ordinary f.offer) found h)

pub joined-admitted : (g : Gathered) → IsWritableGathering g → AllByRecursion offer.format.admits (joined_offers g)
joined-admitted g h =
    each-append offer.format.admits (own_offers g.found) (flat_map (λ a. a.offers) g.given)
    (own-admitted g.found h.found)
    (each-flat AreOffers offer.format.admits (λ a. a.offers) g.given (λ a k. k) h.given)

pub ranked-admitted : (p : Preference) (word : ℕ → ℕ) (offers ranked : List Offer) → IsRanked p word offers ranked
    → AllByRecursion offer.format.admits offers → AllByRecursion offer.format.admits ranked
ranked-admitted p word offers ranked r h =
    each-permuted offer.format.admits offers ranked (same_offers p word offers ranked r) h

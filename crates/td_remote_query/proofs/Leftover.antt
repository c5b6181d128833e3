-- From what an iterator gave to what the query's own connection gives.
use Rattle.std.proofs.Common.{◌≡◌, ◌∙◌, inl, inr, ℕ, ◌≤◌, Bool, true, false, cond, List, ◌++◌}
use Rattle.std.proofs.Common.{length, Option, Some, None, Result, Ok, Err, sym, ap, arith}
use Rattle.td_typecode.specs.declared.reference.Ior.{Ior}
use Rattle.td_ior.specs.declared.profile.Iiop.{Iiop}
use Rattle.td_ior.specs.Nil.{is_nil}
use Rattle.td_ior.specs.Profiles.{iiop_of}
use Rattle.td_ops.specs.declared.outcome.Answered.{Answered}
use Rattle.td_out.proofs.Steps.{Rose-later}
use Rattle.td_value.specs.declared.structures.Offer.{Offer}
use Rattle.td_walk.specs.declared.answer.SubAnswer.{SubAnswer}
use Rattle.td_walk.specs.declared.fault.PeerFault.{PeerFault}
use Rattle.td_walk.specs.declared.fault.PeerFault.TheVariants as fault
use Rattle.td_wire.specs.Connections.{Traffic, left_of}
use Rattle.td_call.specs.Fetching.{IsReadOrFault}
use Rattle.td_remote_query.specs.Querying.{DrainEndsSo, FindsSo, FirstPart, drained_behind, elsewhere, ends, found_ends}
use Rattle.td_remote_query.specs.Querying.{is_at, drain_iterator, left_ends, most_batches, second_id, with_limits}
use Rattle.td_remote_query.specs.Draining.{DrainEnd, gave, raised, unclear, cut, behind, drain_batches, may_join}
use Rattle.td_remote_query.specs.Turns.{Drains}
use Rattle.td_remote_query.specs.declared.gathered.ConnectionResult.{ConnectionResult as Part}
use Rattle.td_remote_query.specs.declared.gathered.ConnectionResult.TheVariants.{All, Elsewhere}
use Rattle.td_remote_query.specs.declared.gathered.Gathered.{Gathered}
use Rattle.td_remote_query.specs.declared.gathered.Gathered.TheVariants.{Offers, Refused}

-- ---- an iterator's offers behind what was found

drained_by : (found : SubAnswer) (old : List Offer) (given : List ℕ) (e : DrainEnd (List Offer)) → old ≡ found.offers
    → drain_batches most_batches second_id (length old) given ≡ e
    → drained_behind found given ≡ with_limits found.limits (behind found.offers e)
drained_by found old given e is d =
    ap (λ (x : List Offer). with_limits found.limits
    (behind found.offers (drain_batches most_batches second_id (length x) given))) (sym is)
    ∙ ap (λ (x : DrainEnd (List Offer)). with_limits found.limits (behind found.offers x)) d

pub behind_gathered : (found : SubAnswer) (old new all : List Offer) (held : List ℕ) (before : Option Traffic) (f0 f1 : ℕ)
    → old ≡ found.offers → all ≡ new → Drains second_id most_batches held before f0 f1 old new (Ok None)
    → DrainEndsSo (drained_behind found) held before f0 f1 (Ok (Offers (record { offers = all; limits = found.limits })))
behind_gathered found old new all held None f0 f1 is same d = tt
behind_gathered found old new all held (Some t) f0 f1 is same d =
    drained_by found old (held ++ left_of t) (gave d.0) is d.2
    ∙ ap (λ (x : List Offer). gave (record { offers = x; limits = found.limits }))
    (sym (same ∙ d.1 ∙ ap (λ (x : List Offer). x ++ d.0) is))

pub behind_refused : (found : SubAnswer) (old new : List Offer) (held : List ℕ) (before : Option Traffic) (f0 f1 : ℕ)
    (answer : Answered) → old ≡ found.offers
    → Drains second_id most_batches held before f0 f1 old new (Ok (Some answer))
    → DrainEndsSo (drained_behind found) held before f0 f1 (Ok (Refused answer))
behind_refused found old new held None f0 f1 answer is d = tt
behind_refused found old new held (Some t) f0 f1 answer is d =
    drained_by found old (held ++ left_of t) (raised answer) is d

pub behind_fault : (found : SubAnswer) (old new : List Offer) (held : List ℕ) (before : Option Traffic) (f0 f1 : ℕ)
    (e : PeerFault) → old ≡ found.offers → Drains second_id most_batches held before f0 f1 old new (Err e)
    → DrainEndsSo (drained_behind found) held before f0 f1 (Err e)
behind_fault found old new held None f0 f1 fault.Wire is d =
    elim d [ inl rose ↦ inl rose | inr ended ↦ inr tt ]
behind_fault found old new held (Some t) f0 f1 fault.Wire is d =
    elim d [
      | inl rose ↦ inl rose
      | inr ended ↦ inr (drained_by found old (held ++ left_of t) cut is ended)
    ]
behind_fault found old new held None f0 f1 fault.Grammar is d = tt
behind_fault found old new held (Some t) f0 f1 fault.Grammar is d =
    drained_by found old (held ++ left_of t) unclear is d
behind_fault found old new held before f0 f1 fault.Exception is d = absurd d
behind_fault found old new held before f0 f1 fault.Memory is d = tt

-- ---- one part by the words of another

-- behind some more bytes, and with an earlier count of faults
pub finds_behind : (part more : (left : List ℕ) → FirstPart) (held rest : List ℕ) (t u : Traffic) (f0 f1 f2 : ℕ)
    (r : Result Part PeerFault) → f0 ≤ f1 → part (held ++ left_of t) ≡ more (rest ++ left_of u)
    → FindsSo more rest (Some u) f1 f2 r → FindsSo part held (Some t) f0 f2 r
finds_behind part more held rest t u f0 f1 f2 (Ok (All (Offers a))) later is x = is ∙ x
finds_behind part more held rest t u f0 f1 f2 (Ok (All (Refused answer))) later is x = is ∙ x
finds_behind part more held rest t u f0 f1 f2 (Ok (Elsewhere p found)) later is x = is ∙ x
finds_behind part more held rest t u f0 f1 f2 (Err fault.Wire) later is x =
    elim x [ inl rose ↦ inl (Rose-later f0 f1 f2 later rose) | inr ended ↦ inr (is ∙ ended) ]
finds_behind part more held rest t u f0 f1 f2 (Err fault.Grammar) later is x = is ∙ x
finds_behind part more held rest t u f0 f1 f2 (Err fault.Exception) later is x = absurd x
finds_behind part more held rest t u f0 f1 f2 (Err fault.Memory) later is x = tt

-- where the wire tells nothing
pub finds_no_content : (part more : (left : List ℕ) → FirstPart) (held rest : List ℕ) (now : Option Traffic) (f0 f1 f2 : ℕ)
    (r : Result Part PeerFault) → f0 ≤ f1 → FindsSo more rest now f1 f2 r → FindsSo part held None f0 f2 r
finds_no_content part more held rest now f0 f1 f2 (Ok (All (Offers a))) later x = tt
finds_no_content part more held rest now f0 f1 f2 (Ok (All (Refused answer))) later x = tt
finds_no_content part more held rest now f0 f1 f2 (Ok (Elsewhere p found)) later x = tt
finds_no_content part more held rest now f0 f1 f2 (Err fault.Wire) later x =
    elim x [ inl rose ↦ inl (Rose-later f0 f1 f2 later rose) | inr ended ↦ inr tt ]
finds_no_content part more held rest now f0 f1 f2 (Err fault.Grammar) later x = tt
finds_no_content part more held rest now f0 f1 f2 (Err fault.Exception) later x = absurd x
finds_no_content part more held rest now f0 f1 f2 (Err fault.Memory) later x = tt

pub finds_as : (part more : (left : List ℕ) → FirstPart) (held : List ℕ) (before : Option Traffic) (f0 f1 f2 : ℕ)
    (r : Result Part PeerFault) → f0 ≤ f1 → ((left : List ℕ) → part left ≡ more left)
    → FindsSo more held before f1 f2 r → FindsSo part held before f0 f2 r
finds_as part more held None f0 f1 f2 r later is x = finds_no_content part more held held None f0 f1 f2 r later x
finds_as part more held (Some t) f0 f1 f2 r later is x =
    finds_behind part more held held t t f0 f1 f2 r later (is (held ++ left_of t)) x

-- ---- parts that are known

pub finds_offers : (part : (left : List ℕ) → FirstPart) (held : List ℕ) (before : Option Traffic) (f0 f1 : ℕ)
    (a : SubAnswer) → ((left : List ℕ) → part left ≡ ends (gave a))
    → FindsSo part held before f0 f1 (Ok (All (Offers a)))
finds_offers part held None f0 f1 a is = tt
finds_offers part held (Some t) f0 f1 a is = is (held ++ left_of t)

pub finds_elsewhere : (part : (left : List ℕ) → FirstPart) (held : List ℕ) (before : Option Traffic) (f0 f1 : ℕ)
    (p : Iiop) (found : SubAnswer) → ((left : List ℕ) → part left ≡ elsewhere p found)
    → FindsSo part held before f0 f1 (Ok (Elsewhere p found))
finds_elsewhere part held None f0 f1 p found is = tt
finds_elsewhere part held (Some t) f0 f1 p found is = is (held ++ left_of t)

pub finds_unclear : (part : (left : List ℕ) → FirstPart) (held : List ℕ) (before : Option Traffic) (f0 f1 : ℕ)
    → ((left : List ℕ) → part left ≡ ends unclear) → FindsSo part held before f0 f1 (Err fault.Grammar)
finds_unclear part held None f0 f1 is = tt
finds_unclear part held (Some t) f0 f1 is = is (held ++ left_of t)

-- all that the query comes to
abbrev pub all_of : Result Gathered PeerFault → Result Part PeerFault
all_of (Ok g) = Ok (All g)
all_of (Err e) = Err e

pub finds_ended : (part : (left : List ℕ) → FirstPart) (ending : (left : List ℕ) → DrainEnd SubAnswer) (held : List ℕ)
    (before : Option Traffic) (f0 f1 : ℕ) (r : Result Gathered PeerFault)
    → ((left : List ℕ) → part left ≡ ends (ending left)) → DrainEndsSo ending held before f0 f1 r
    → FindsSo part held before f0 f1 (all_of r)
finds_ended part ending held None f0 f1 (Ok (Offers a)) is e = tt
finds_ended part ending held (Some t) f0 f1 (Ok (Offers a)) is e =
    is (held ++ left_of t) ∙ ap (λ (x : DrainEnd SubAnswer). ends x) e
finds_ended part ending held None f0 f1 (Ok (Refused answer)) is e = tt
finds_ended part ending held (Some t) f0 f1 (Ok (Refused answer)) is e =
    is (held ++ left_of t) ∙ ap (λ (x : DrainEnd SubAnswer). ends x) e
finds_ended part ending held None f0 f1 (Err fault.Wire) is e =
    elim e [ inl rose ↦ inl rose | inr ended ↦ inr tt ]
finds_ended part ending held (Some t) f0 f1 (Err fault.Wire) is e =
    elim e [
      | inl rose ↦ inl rose
      | inr ended ↦ inr (is (held ++ left_of t) ∙ ap (λ (x : DrainEnd SubAnswer). ends x) ended)
    ]
finds_ended part ending held None f0 f1 (Err fault.Grammar) is e = tt
finds_ended part ending held (Some t) f0 f1 (Err fault.Grammar) is e =
    is (held ++ left_of t) ∙ ap (λ (x : DrainEnd SubAnswer). ends x) e
finds_ended part ending held before f0 f1 (Err fault.Exception) is e = absurd e
finds_ended part ending held before f0 f1 (Err fault.Memory) is e = tt

-- ---- an iterator, by its reference and its profile

pub at_place : (trader p : Iiop) (found : SubAnswer) → is_at trader p ≡ true
    → (left : List ℕ) → drain_iterator trader (Some p) found left ≡ ends (drained_behind found left)
at_place trader p found here left =
    ap (λ (b : Bool). cond b (ends (drained_behind found left)) (elsewhere p found)) here

pub at_other : (trader p : Iiop) (found : SubAnswer) → is_at trader p ≡ false
    → (left : List ℕ) → drain_iterator trader (Some p) found left ≡ elsewhere p found
at_other trader p found there left =
    ap (λ (b : Bool). cond b (ends (drained_behind found left)) (elsewhere p found)) there

pub of_nil : (trader : Iiop) (iterator : Ior) (found : SubAnswer) → is_nil iterator ≡ true
    → (left : List ℕ) → left_ends trader iterator found left ≡ ends (gave found)
of_nil trader iterator found nil left =
    ap (λ (b : Bool). cond b (ends (gave found)) (drain_iterator trader (iiop_of iterator) found left)) nil

pub of_profile : (trader : Iiop) (iterator : Ior) (o : Option Iiop) (found : SubAnswer) → is_nil iterator ≡ false
    → iiop_of iterator ≡ o → (left : List ℕ) → left_ends trader iterator found left ≡ drain_iterator trader o found left
of_profile trader iterator o found some is left =
    ap (λ (b : Bool). cond b (ends (gave found)) (drain_iterator trader (iiop_of iterator) found left)) some
    ∙ ap (λ (x : Option Iiop). drain_iterator trader x found left) is

pub finds_no_profile : (trader : Iiop) (iterator : Ior) (found : SubAnswer) (held : List ℕ) (before : Option Traffic)
    (f0 f1 : ℕ) (e : PeerFault) → is_nil iterator ≡ false → IsReadOrFault (iiop_of iterator) (Err e)
    → FindsSo (left_ends trader iterator found) held before f0 f1 (Err e)
finds_no_profile trader iterator found held before f0 f1 fault.Wire some none = absurd none
finds_no_profile trader iterator found held before f0 f1 fault.Grammar some none =
    finds_unclear (left_ends trader iterator found) held before f0 f1
    (of_profile trader iterator None found some none)
finds_no_profile trader iterator found held before f0 f1 fault.Exception some none = absurd none
finds_no_profile trader iterator found held before f0 f1 fault.Memory some none = tt

pub joined_ends : (trader : Iiop) (iterator : Ior) (found : SubAnswer) → may_join 0 found.offers ≡ true
    → (left : List ℕ) → found_ends trader iterator found left ≡ left_ends trader iterator found left
joined_ends trader iterator found joins left =
    ap (λ (b : Bool). cond b (left_ends trader iterator found left) (ends unclear)) joins

pub unjoined_ends : (trader : Iiop) (iterator : Ior) (found : SubAnswer) → may_join 0 found.offers ≡ false
    → (left : List ℕ) → found_ends trader iterator found left ≡ ends unclear
unjoined_ends trader iterator found refused left =
    ap (λ (b : Bool). cond b (left_ends trader iterator found left) (ends unclear)) refused

-- with no fault in between
pub finds_same : (part more : (left : List ℕ) → FirstPart) (held : List ℕ) (before : Option Traffic) (f0 f1 : ℕ)
    (r : Result Part PeerFault) → ((left : List ℕ) → part left ≡ more left) → FindsSo more held before f0 f1 r
    → FindsSo part held before f0 f1 r
finds_same part more held before f0 f1 r is x = finds_as part more held before f0 f0 f1 r (omega arith) is x

-- The calls of a peer outside: which were made, and what each gave (OMG's Trading Object Service, interfaces
-- Lookup, Register and DynamicPropEval).
use Rattle.std.specs.Prelude.{◌≡◌, ℕ, ◌≤◌, Bool, true, false, List, [], ◌∷◌, ◌++◌, length, Result, Ok, Err, IfErr}
use Rattle.std.specs.List.{AllByRecursion}
use Rattle.td_cdr.specs.Format.{Unless}
use Rattle.td_cdr.specs.declared.order.Order.TheVariants.{Big}
use Rattle.td_typecode.specs.References.{reference}
use Rattle.td_typecode.specs.Values.{any_value}
use Rattle.td_typecode.specs.declared.code.Any.{Any}
use Rattle.td_typecode.specs.declared.code.TypeCode.{TypeCode}
use Rattle.td_typecode.specs.declared.reference.Ior.{Ior}
use Rattle.td_ops.specs.declared.call.Query.{Query}
use Rattle.td_out.specs.Causes.{Rose}
use Rattle.td_value.specs.Structures.{offer}
use Rattle.td_value.specs.declared.structures.Offer.{Offer}
use Rattle.td_walk.specs.declared.answer.SubAnswer.{SubAnswer}
use Rattle.td_walk.specs.declared.fault.PeerFault.{PeerFault}
use Rattle.td_walk.specs.declared.fault.PeerFault.TheVariants as fault

-- ---- calls

pub data PeerCall : Type 0 where
  -- query of a Lookup
  Querying : (target : Ior) → Query → PeerCall
  -- evalDP of a DynamicPropEval
  Evaluating : (evaluator : Ior) → (name : List ℕ) → (returned : TypeCode) → (extra : Any)
      → PeerCall
  -- the attribute register_if of a Lookup
  RegisterOf : (lookup : Ior) → PeerCall
  -- resolve of a Register
  Resolving : (register : Ior) → (name : List (List ℕ)) → PeerCall

pub data PeerAnswer : Type 0 where
  Answered : SubAnswer → PeerAnswer
  Evaluated : Any → PeerAnswer
  Referred : Ior → PeerAnswer
  Failed : PeerFault → PeerAnswer

-- a call, and what it gave
pub record Exchange : Type 0 where
  pub call : PeerCall
  pub gave : PeerAnswer

abbrev pub is_memory : PeerFault → Bool
is_memory fault.Memory = true
is_memory other = false

-- what a call adds to those that were made: one that ran out of memory isn't counted
abbrev pub exchange : {X : Type 0} → (X → PeerAnswer) → PeerCall → Result X PeerFault
    → List Exchange
exchange given call (Ok x) = record { call = call; gave = given x } ∷ []
exchange given call (Err fault.Memory) = []
exchange given call (Err f) = record { call = call; gave = Failed f } ∷ []

-- The call is noted with what it gave. The count of faults never falls, and a fault comes only where it rose.
pub record IsNoted {X : Type 0} (given : X → PeerAnswer) (call : PeerCall)
    (before after : List Exchange)
    (faults now : ℕ) (r : Result X PeerFault) : Type 0 where
  pub calls : after ≡ before ++ exchange given call r
  pub later : faults ≤ now
  pub cause : IfErr r (λ f. Unless (is_memory f) (Rose faults now))

-- ---- what an answer may hold

-- 6 MiB, written big-endian from place 0
abbrev pub IsSmallOffer : Offer → Type 0
IsSmallOffer o = length (offer.format.writes o Big 0) ≤ 6291456

abbrev pub HasSmallOffers : SubAnswer → Type 0
HasSmallOffers a = AllByRecursion IsSmallOffer a.offers

-- ---- what can be written of it (CORBA, chapter on General Inter-ORB Protocol, "CDR Transfer Syntax")

abbrev pub HasWritableOffers : SubAnswer → Type 0
HasWritableOffers a = AllByRecursion offer.format.admits a.offers

-- what a call gave: offers, a value or a reference; a fault is nothing to write
abbrev pub AdmitsGift : PeerAnswer → Type 0
AdmitsGift (Answered a) = HasWritableOffers a
AdmitsGift (Evaluated v) = any_value.format.admits v
AdmitsGift (Referred r) = reference.format.admits r
AdmitsGift (Failed f) = Unit {0}

abbrev pub AdmitsGifts : List PeerAnswer → Type 0
AdmitsGifts gave = AllByRecursion AdmitsGift gave

-- what each of these calls gave
abbrev pub AdmitsExchanges : List Exchange → Type 0
AdmitsExchanges calls = AllByRecursion (λ (e : Exchange). AdmitsGift e.gave) calls

-- How the logic stores the calls of peers; no clause speaks of it.
use Rattle.std.specs.Prelude.{◌≡◌, ◌⊎◌, ℕ, List, refl}
use Rattle.std.specs.Coded.{Coded, code_by, coded×, coded⊎, coded_list, coded_ℕ}
use Rattle.std.proofs.Common.{inl, inr}
use Rattle.td_typecode.specs.declared.code.Any.{Any}
use Rattle.td_typecode.specs.declared.code.TypeCode.{TypeCode}
use Rattle.td_typecode.specs.declared.reference.Ior.{Ior}
use Rattle.td_ops.specs.declared.call.Query.{Query}
use Rattle.td_walk.specs.Peering.{Exchange, PeerCall, Querying, Evaluating, RegisterOf, Resolving}
use Rattle.td_walk.specs.Peering.{PeerAnswer, Answered, Evaluated, Referred, Failed}
use Rattle.td_walk.specs.declared.answer.SubAnswer.{SubAnswer}
use Rattle.td_walk.specs.declared.fault.PeerFault.{PeerFault}

-- ---- a call

abbrev CallCases : Type 0
CallCases = (Ior × Query) ⊎ ((Ior × (List ℕ × (TypeCode × Any))) ⊎ (Ior ⊎ (Ior × List (List ℕ))))

abbrev call_cases : PeerCall → CallCases
call_cases (Querying t q) = inl (t, q)
call_cases (Evaluating t n c x) = inr (inl (t, (n, (c, x))))
call_cases (RegisterOf t) = inr (inr (inl t))
call_cases (Resolving t n) = inr (inr (inr (t, n)))

abbrev call_from : CallCases → PeerCall
call_from (inl p) = Querying p.0 p.1
call_from (inr (inl p)) = Evaluating p.0 p.1.0 p.1.1.0 p.1.1.1
call_from (inr (inr (inl t))) = RegisterOf t
call_from (inr (inr (inr p))) = Resolving p.0 p.1

pub call_from-cases : (c : PeerCall) → call_from (call_cases c) ≡ c
call_from-cases (Querying t q) = refl
call_from-cases (Evaluating t n c x) = refl
call_from-cases (RegisterOf t) = refl
call_from-cases (Resolving t n) = refl

abbrev call_code : Coded Ior → Coded Query → Coded TypeCode → Coded Any → Coded PeerCall
call_code ior query code any =
    code_by
    CallCases
    (coded⊎ (coded× ior query)
    (coded⊎ (coded× ior (coded× (coded_list coded_ℕ) (coded× code any)))
    (coded⊎ ior (coded× ior (coded_list (coded_list coded_ℕ))))))
    call_cases
    call_from
    call_from-cases

-- ---- what it gave

abbrev GivenCases : Type 0
GivenCases = SubAnswer ⊎ (Any ⊎ (Ior ⊎ PeerFault))

abbrev given_cases : PeerAnswer → GivenCases
given_cases (Answered a) = inl a
given_cases (Evaluated v) = inr (inl v)
given_cases (Referred r) = inr (inr (inl r))
given_cases (Failed f) = inr (inr (inr f))

abbrev given_from : GivenCases → PeerAnswer
given_from (inl a) = Answered a
given_from (inr (inl v)) = Evaluated v
given_from (inr (inr (inl r))) = Referred r
given_from (inr (inr (inr f))) = Failed f

pub given_from-cases : (g : PeerAnswer) → given_from (given_cases g) ≡ g
given_from-cases (Answered a) = refl
given_from-cases (Evaluated v) = refl
given_from-cases (Referred r) = refl
given_from-cases (Failed f) = refl

abbrev given_code : Coded SubAnswer → Coded Any → Coded Ior → Coded PeerFault → Coded PeerAnswer
given_code answer any ior fault =
    code_by GivenCases (coded⊎ answer (coded⊎ any (coded⊎ ior fault)))
    given_cases given_from given_from-cases

-- ---- a call, and what it gave

abbrev exchange_by : Coded PeerCall → Coded PeerAnswer → Coded Exchange
exchange_by of_call of_given =
    code_by
    (PeerCall × PeerAnswer)
    (coded× of_call of_given)
    (λ e. (e.call, e.gave))
    (λ p. record { call = p.0; gave = p.1 })
    (λ _. refl)

abbrev pub exchange_code : Coded Ior → Coded Query → Coded TypeCode → Coded Any → Coded SubAnswer
    → Coded PeerFault → Coded Exchange
exchange_code ior query code any answer fault =
    exchange_by (call_code ior query code any) (given_code answer any ior fault)

-- What a body tells, by its parts.
use Rattle.std.proofs.Common.{◌≡◌, ℕ, Bool, true, false, cond, Option, Some, None, option_and_then, Result, Ok, Err}
use Rattle.std.proofs.Common.{sym, ap, subst}
use Rattle.td_cdr.specs.Format.{Read, Unless}
use Rattle.td_cdr.specs.Place.{At}
use Rattle.td_cdr.specs.ValueFaults.{is_memory}
use Rattle.td_cdr.specs.declared.value_fault.ValueFault.{ValueFault}
use Rattle.td_typecode.specs.declared.code.Any.{Any}
use Rattle.td_typecode.specs.declared.code.TypeCode.{TypeCode}
use Rattle.td_ops.specs.Answers.{answer_of}
use Rattle.td_ops.specs.Called.{operation_in}
use Rattle.td_ops.specs.declared.call.Call.{Call}
use Rattle.td_ops.specs.declared.outcome.Answered.{Answered}
use Rattle.td_walk.specs.declared.fault.PeerFault.{PeerFault}
use Rattle.td_walk.specs.declared.fault.PeerFault.TheVariants as fault
use Rattle.td_call.specs.Replies.{Reading}
use Rattle.td_call.specs.Readings.{AdmitsAnswered, exception_given, may_stand, any_result, value_given}
use Rattle.td_call.specs.Fetching.{IsReadOrFault}

-- ---- an answer

-- what was read by its status can be written
pub content_admitted : (c : Call) (status : ℕ) (a : Answered) → (answer_of (operation_in c) status).format.admits a
    → AdmitsAnswered c a
content_admitted c status a h = (status, h)

-- ---- a value

-- a value that can't be read is a fault of the grammar, or ran out of memory
pub value_refused : (returned : TypeCode) (reading : Read ValueFault Any) (e : ValueFault) (f : PeerFault)
    → f ≡ cond (is_memory e) fault.Memory fault.Grammar → Unless (is_memory e) (reading ≡ Err e)
    → IsReadOrFault (value_given returned reading) (Err f)
value_refused returned reading e f is said =
    subst (λ (x : PeerFault). IsReadOrFault (value_given returned reading) (Err x)) (sym is) (go (is_memory e) said)
  where
    go : (b : Bool) → Unless b (reading ≡ Err e)
        → IsReadOrFault (value_given returned reading) (Err (cond b fault.Memory fault.Grammar))
    go true said = tt
    go false said = ap (value_given returned) said

pub parse_value : (returned : TypeCode) (reading : Read ValueFault Any) (v : Any) (next : At)
    (r : Result (Option Any) PeerFault) → reading ≡ Ok (v, next) → IsReadOrFault (any_result returned v) r
    → IsReadOrFault (value_given returned reading) r
parse_value returned reading v next r e read =
    subst (λ (x : Read ValueFault Any). IsReadOrFault (value_given returned x) r) (sym e) read

pub stands : (returned : TypeCode) (v : Any) → true ≡ may_stand returned v → any_result returned v ≡ Some (Some v)
stands returned v e = ap (λ (b : Bool). cond b (Some (Some v)) None) (sym e)

pub stands_not : (returned : TypeCode) (v : Any) → false ≡ may_stand returned v → any_result returned v ≡ None
stands_not returned v e = ap (λ (b : Bool). cond b (Some (Some v)) None) (sym e)

-- ---- an exception

pub exception_content : (found : Option Answered) (a : Answered) → found ≡ Some a → exception_given found ≡ Some None
exception_content found a e = ap exception_given e

pub exception_refused : (found : Option Answered) (e : PeerFault) → IsReadOrFault found (Err e)
    → IsReadOrFault (exception_given found) (Err e)
exception_refused found fault.Wire read = absurd read
exception_refused found fault.Grammar read = ap exception_given read
exception_refused found fault.Exception read = absurd read
exception_refused found fault.Memory read = tt

-- ---- a whole message

pub no_body : {A : Type 0} (reads : Reading A) (found : Option (ℕ × At)) → found ≡ None
    → option_and_then (λ (b : ℕ × At). reads b.0 b.1) found ≡ None
no_body reads found e = ap (option_and_then (λ (b : ℕ × At). reads b.0 b.1)) e

pub body_in_reply : {A : Type 0} (reads : Reading A) (found : Option (ℕ × At)) (status : ℕ) (a : At)
    (r : Result A PeerFault) → found ≡ Some (status, a) → IsReadOrFault (reads status a) r
    → IsReadOrFault (option_and_then (λ (b : ℕ × At). reads b.0 b.1) found) r
body_in_reply reads found status a r e read =
    subst (λ (x : Option (ℕ × At)). IsReadOrFault (option_and_then (λ (b : ℕ × At). reads b.0 b.1) x) r) (sym e) read

-- What the body of a reply tells, by its status (CORBA, chapter on General Inter-ORB Protocol, "Reply Body"; OMG's
-- Trading Object Service, interface DynamicPropEval).
use Rattle.std.specs.Prelude.{ℕ, Bool, ◌&&◌, nat_eq, nat_le, if◌then◌else◌, length, Option, Some, None}
use Rattle.std.specs.Prelude.{Result, Ok, Err, ⊤}
use Rattle.td_cdr.specs.declared.order.Order.TheVariants.{Big}
use Rattle.td_cdr.specs.declared.value_fault.ValueFault.{ValueFault}
use Rattle.td_cdr.specs.Format.{Read}
use Rattle.td_cdr.specs.Place.{At}
use Rattle.td_typecode.specs.Same.{same}
use Rattle.td_typecode.specs.Values.{any_value}
use Rattle.td_typecode.specs.declared.code.Any.{Any}
use Rattle.td_typecode.specs.declared.code.TypeCode.{TypeCode}
use Rattle.td_ops.specs.declared.call.Call.{Call}
use Rattle.td_ops.specs.declared.call.Call.TheVariants.{NonExistent}
use Rattle.td_ops.specs.declared.outcome.Answered.{Answered}
use Rattle.td_ops.specs.Answers.{answer_of, outcome_read}
use Rattle.td_ops.specs.Called.{operation_in}
use Rattle.td_walk.specs.Resolving.{longest_value}
use Rattle.td_call.specs.Replies.{Reading}

abbrev pub without_fault : {A F : Type 0} → Result (A × At) F → Option A
without_fault (Ok x) = Some x.0
without_fault (Err e) = None

-- what a reply to a call tells: a result, or an exception
abbrev pub outcome_in_reply : Call → Reading Answered
outcome_in_reply c status a = without_fault (outcome_read c status a)

-- it can be written, as the body of a reply to this call
abbrev pub AdmitsAnswered : Call → Answered → Type 0
AdmitsAnswered c a = (status : ℕ) × (answer_of (operation_in c) status).format.admits a

-- ---- what an evaluator gives

-- its value can be written, where there is one
abbrev pub AdmitsValue : Option Any → Type 0
AdmitsValue (Some v) = any_value.format.admits v
AdmitsValue None = ⊤

-- of the returned type, and of at most 16 KiB from place 0 on
unfoldable pub may_stand : (returned : TypeCode) → Any → Bool
may_stand returned value =
    same value.code returned && nat_le (length (any_value.format.writes value Big 0)) longest_value

-- a value; none stands for an exception
abbrev pub any_result : (returned : TypeCode) → Any → Option (Option Any)
any_result returned value = if may_stand returned value then Some (Some value) else None

abbrev pub value_given : (returned : TypeCode) → Read ValueFault Any → Option (Option Any)
value_given returned (Ok x) = any_result returned x.0
value_given returned (Err e) = None

-- an exception's members stay unread
abbrev pub exception_given : Option Answered → Option (Option Any)
exception_given (Some answer) = Some None
exception_given None = None

-- what a reply to evalDP tells
abbrev pub evaluation_in_reply : (returned : TypeCode) → Reading (Option Any)
evaluation_in_reply returned status a =
    if nat_eq status 0 then value_given returned (any_value.format.reads a)
    else exception_given (outcome_in_reply NonExistent status a)

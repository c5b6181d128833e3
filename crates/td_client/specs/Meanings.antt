-- What the answer to a call means to a visit: an exception is a fault there.
use Rattle.std.specs.Prelude.{ℕ, List, Option, Some, None, Result, Ok, Err}
use Rattle.td_typecode.specs.declared.code.Any.{Any}
use Rattle.td_typecode.specs.declared.reference.Ior.{Ior}
use Rattle.td_ops.specs.declared.attribute.Attribute.TheVariants.{Reference as Referring}
use Rattle.td_ops.specs.declared.attribute.ReferenceAttribute.TheVariants.{RegisterIf}
use Rattle.td_ops.specs.declared.call.Call.{Call}
use Rattle.td_ops.specs.declared.call.Call.TheVariants.{Look as Looking, Resolve}
use Rattle.td_ops.specs.declared.call.Look.TheVariants.{Get}
use Rattle.td_ops.specs.declared.outcome.Answered.{Answered}
use Rattle.td_ops.specs.declared.outcome.Answered.TheVariants.{Done, User, System}
use Rattle.td_ops.specs.declared.outcome.Reply.TheVariants.{Reference}
use Rattle.td_walk.specs.declared.answer.SubAnswer.{SubAnswer}
use Rattle.td_walk.specs.declared.fault.PeerFault.{PeerFault}
use Rattle.td_walk.specs.declared.fault.PeerFault.TheVariants as fault
use Rattle.td_remote_query.specs.declared.gathered.Gathered.{Gathered}
use Rattle.td_remote_query.specs.declared.gathered.Gathered.TheVariants.{Offers, Refused}

-- what an answer means, where there is one
abbrev pub with_meaning : {A B : Type 0} → (A → Result B PeerFault) → Result A PeerFault
    → Result B PeerFault
with_meaning meaning (Ok a) = meaning a
with_meaning meaning (Err e) = Err e

abbrev pub reference_meant : Answered → Result Ior PeerFault
reference_meant (Done (Reference r)) = Ok r
reference_meant (Done other) = Err fault.Grammar
reference_meant (User id) = Err fault.Exception
reference_meant (System id minor completion) = Err fault.Exception

abbrev pub value_meant : Option Any → Result Any PeerFault
value_meant (Some value) = Ok value
value_meant None = Err fault.Exception

abbrev pub offers_meant : Gathered → Result SubAnswer PeerFault
offers_meant (Offers a) = Ok a
offers_meant (Refused answer) = Err fault.Exception

-- the attribute register_if is read
abbrev pub register_call : Call
register_call = Looking (Get (Referring RegisterIf))

abbrev pub resolve_call : (name : List (List ℕ)) → Call
resolve_call name = Resolve name

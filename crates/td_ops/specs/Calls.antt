-- The bodies of requests: the parameters that go in, in the order of their declaration (CORBA, chapter on General
-- Inter-ORB Protocol, "Request Body").
use Rattle.std.specs.Prelude.{◌≡◌, ℕ, List, Option, Some, None, Result, Err}
use Rattle.td_cdr.specs.declared.order.Order.{Order}
use Rattle.td_cdr.specs.Place.{At}
use Rattle.td_cdr.specs.Format.{Format, Piece}
use Rattle.td_cdr.specs.declared.value_fault.ValueFault.{ValueFault}
use Rattle.td_value.specs.declared.key.Kind.{Kind}
use Rattle.td_ops.specs.declared.call.Call.{Call}
use Rattle.td_ops.specs.declared.operation.Operation.{Operation}
use Rattle.td_ops.specs.declared.fault.OpsFault.{OpsFault}
use Rattle.td_ops.specs.declared.fault.OpsFault.TheVariants.{BadOperation}
use Rattle.td_ops.specs.Called.{operation_in}
use Rattle.td_ops.specs.Operations.{operation_named, row}
use Rattle.td_ops.specs.Refusals.{reading_of}

-- the parameters of an operation
abbrev pub body_of : Operation → Format ValueFault Call
body_of operation = (row operation).body.format

-- these bytes are the body of a request for this call, by the name of an operation that the object has
pub record Body (kind : Kind) (name : List ℕ) (order : Order) (place : ℕ) (c : Call)
    (bytes : List ℕ) : Type 0 where
  pub operation : Operation
  pub named : operation_named kind name ≡ Some operation
  pub spelled : (body_of operation).spells order place c bytes

-- the call and where the reader then stands, or the first fault; an unknown operation before the body is looked at
abbrev pub read_under : Option Operation → At → Result (Call × At) OpsFault
read_under (Some operation) a = reading_of ((body_of operation).reads a)
read_under None a = Err BadOperation

abbrev pub call_read : Kind → List ℕ → At → Result (Call × At) OpsFault
call_read kind name a = read_under (operation_named kind name) a

-- the calls that can be written: no NUL in their texts, their anys, TypeCodes and references are admitted, and the
-- change that adds a link is none of them
abbrev pub AdmitsCall : Call → Type 0
AdmitsCall c = (body_of (operation_in c)).admits c

-- what is written for a call
abbrev pub call_piece : Call → Piece
call_piece c = (body_of (operation_in c)).writes c

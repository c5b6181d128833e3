-- The bodies of requests: the parameters that go in, in the order of their declaration (CORBA, chapter on General
-- Inter-ORB Protocol, "Request Body").
use Rattle.std.specs.Prelude.{◌≡◌, ℕ, List, Option, Some, None, Result, Err}
use Rattle.td_cdr.specs.declared.order.Order.{Order}
use Rattle.td_cdr.specs.declared.value_fault.ValueFault.{ValueFault}
use Rattle.td_cdr.specs.Format.{Format}
use Rattle.td_cdr.specs.Place.{At}
use Rattle.td_ops.specs.Refusals.{reading_of}
use Rattle.td_ops.specs.declared.fault.OpsFault.{OpsFault}
use Rattle.td_ops.specs.declared.fault.OpsFault.TheVariants.{BadOperation}
use Rattle.td_name_ops.specs.Called.{operation_in}
use Rattle.td_name_ops.specs.Operations.{operation_named, row}
use Rattle.td_name_ops.specs.declared.call.NameCall.{NameCall}
use Rattle.td_name_ops.specs.declared.operation.NameKind.{NameKind}
use Rattle.td_name_ops.specs.declared.operation.NameOperation.{NameOperation}

-- the parameters of an operation
abbrev pub body_of : NameOperation → Format ValueFault NameCall
body_of operation = (row operation).body.format

-- these bytes are the body of a request for this call, by the name of an operation that the object has
pub record Body (kind : NameKind) (called : List ℕ) (order : Order) (place : ℕ) (c : NameCall)
    (bytes : List ℕ) : Type 0 where
  pub operation : NameOperation
  pub named : operation_named kind called ≡ Some operation
  pub spelled : (body_of operation).spells order place c bytes

-- the call and where the reader then stands, or the first fault; an unknown operation before the body is looked at
abbrev pub read_under : Option NameOperation → At → Result (NameCall × At) OpsFault
read_under (Some operation) a = reading_of ((body_of operation).reads a)
read_under None a = Err BadOperation

abbrev pub call_read : NameKind → List ℕ → At → Result (NameCall × At) OpsFault
call_read kind called a = read_under (operation_named kind called) a

-- the calls that can be written: no NUL in their texts, and their references are admitted
abbrev pub AdmitsCall : NameCall → Type 0
AdmitsCall c = (body_of (operation_in c)).admits c

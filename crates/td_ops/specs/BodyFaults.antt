-- Where the bytes of a request's body are no parameters of the operation, and where those of a reply's body are no
-- result, as conditions on the bytes (CORBA, chapter on General Inter-ORB Protocol, "Request Body" and "Reply Body",
-- and chapter "Standard Exceptions": BAD_OPERATION, MARSHAL and NO_IMPLEMENT). A fault is that of the first value that
-- has no spelling, all values before it having one.
use Rattle.std.specs.Prelude.{◌≡◌, ℕ, false, List, Some}
use Rattle.std.specs.List.{AllByRecursion}
use Rattle.std.specs.Str.{bytes_eq}
use Rattle.td_cdr.specs.Place.{At}
use Rattle.td_cdr.specs.FormatFaults.{Faults}
use Rattle.td_cdr.specs.declared.value_fault.ValueFault.{ValueFault}
use Rattle.td_cdr.specs.declared.value_fault.ValueFault.TheVariants.{Unsupported}
use Rattle.td_value.specs.declared.key.Kind.{Kind}
use Rattle.td_ops.specs.declared.fault.OpsFault.TheVariants.{Marshal}
use Rattle.td_ops.specs.declared.operation.Operation.{Operation}
use Rattle.td_ops.specs.declared.operation.Operation.TheVariants.{Admin}
use Rattle.td_ops.specs.declared.operation.AdminOperation.TheVariants.{SetTypeRepos}
use Rattle.td_ops.specs.Operations.{first_name, name_of, operations, operation_named, row}
use Rattle.td_ops.specs.Refusals.{fault_of}
use Rattle.td_ops.specs.Answers.{answer_of}

-- ---- the faults of values, as a caller is told them

-- the first fault is a kind of TypeCode that is left out
pub record UnsupportedKind (faults : Faults ValueFault) (a : At) : Type 0 where
  pub code : ℕ
  pub holds : faults a (Unsupported code)

-- the first fault is another one, at this place
pub record Misspelling (faults : Faults ValueFault) (a : At) (place : ℕ) : Type 0 where
  pub fault : ValueFault
  pub holds : faults a fault
  pub content : fault_of fault ≡ Marshal place

-- ---- of an operation's parameters, and of what answers it

abbrev pub parameter_faults : Operation → Faults ValueFault
parameter_faults operation = (row operation).body.faults

abbrev pub answer_faults : Operation → ℕ → Faults ValueFault
answer_faults operation status = (answer_of operation status).faults

-- ---- of a request for an object's operation of this name

-- the object's table has no such operation
abbrev pub IsUnknown : Kind → List ℕ → Type 0
IsUnknown kind name = AllByRecursion (λ o. bytes_eq (first_name name) (name_of o) ≡ false)
    (operations kind)

-- it would change the type repository of a trader, or has a kind of TypeCode that is left out
pub data IsNotImplemented (kind : Kind) (name : List ℕ) (a : At) : Type 0 where
  repository : operation_named kind name ≡ Some (Admin SetTypeRepos) → IsNotImplemented kind name a
  unsupported : (operation : Operation) → operation_named kind name ≡ Some operation
      → UnsupportedKind (parameter_faults operation) a → IsNotImplemented kind name a

-- its parameters have another fault, at this place
pub record IsMisspelled (kind : Kind) (name : List ℕ) (a : At) (place : ℕ) : Type 0 where
  pub operation : Operation
  pub named : operation_named kind name ≡ Some operation
  pub first : Misspelling (parameter_faults operation) a place

-- What a fault of the bytes is to the caller (CORBA, chapter "Standard Exceptions": MARSHAL and NO_IMPLEMENT).
use Rattle.std.specs.Prelude.{◌≡◌, Result, Ok, Err, OnErr, IfOk}
use Rattle.td_cdr.specs.declared.fault.CdrFault.TheVariants as cdr
use Rattle.td_cdr.specs.Place.{At}
use Rattle.td_cdr.specs.declared.value_fault.ValueFault.{ValueFault}
use Rattle.td_cdr.specs.declared.value_fault.ValueFault.TheVariants as value
use Rattle.td_cdr.specs.Format.{Read}
use Rattle.td_ops.specs.declared.fault.OpsFault.{OpsFault}
use Rattle.td_ops.specs.declared.fault.OpsFault.TheVariants.{BadOperation, Marshal, NoImplement, Memory}

-- a kind that is left out is not implemented; each other fault has its place
abbrev pub fault_of : ValueFault → OpsFault
fault_of (value.Cdr (cdr.Short place)) = Marshal place
fault_of (value.Cdr (cdr.BadBoolean place)) = Marshal place
fault_of (value.Cdr (cdr.BadString place)) = Marshal place
fault_of (value.Cdr (cdr.TooLong place)) = Marshal place
fault_of (value.Cdr cdr.Memory) = Memory
fault_of (value.BadKind place) = Marshal place
fault_of (value.BadValue place) = Marshal place
fault_of (value.Unsupported kind) = NoImplement
fault_of (value.Depth place) = Marshal place
fault_of (value.Indirection place) = Marshal place
fault_of value.Memory = Memory

-- a reading, with its fault as the caller is told it
abbrev pub reading_of : {X : Type 0} → Read ValueFault X → Result (X × At) OpsFault
reading_of (Ok x) = Ok x
reading_of (Err e) = Err (fault_of e)

-- What a call answered is what reading gives. Memory may run out in place of it, but not where the operation is
-- unknown.
abbrev pub ReadsAs : {X : Type 0} → At → Result X OpsFault → Result (X × At) OpsFault → Type 0
ReadsAs new (Ok x) reading = reading ≡ Ok (x, new)
ReadsAs new (Err Memory) reading = reading ≡ Err BadOperation → ⊥
ReadsAs new (Err e) reading = reading ≡ Err e

-- A public reader answers what reading gives, and what can be written. It is unchanged where it refuses.
pub record ReadsWritable {X : Type 0} (admits : X → Type 0) (reading : Result (X × At) OpsFault)
    (old new : At) (result : Result X OpsFault) : Type 0 where
  pub gives : ReadsAs new result reading
  pub unchanged : OnErr result (new ≡ old)
  pub admitted : IfOk result admits

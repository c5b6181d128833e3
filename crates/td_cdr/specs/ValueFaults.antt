-- Which fault says nothing of the bytes.
use Rattle.std.specs.Prelude.{Bool, true, false}
use Rattle.td_cdr.specs.declared.value_fault.ValueFault.{ValueFault}
use Rattle.td_cdr.specs.declared.value_fault.ValueFault.TheVariants as fault

abbrev pub is_memory : ValueFault → Bool
is_memory fault.Memory = true
is_memory e = false

-- Outcomes of changes that aren't done, and of looks.
use Rattle.std.specs.Prelude.{◌≡◌, Result, Ok, Err}
use Rattle.td_cdr.specs.declared.memory.Memory.{Memory as OutOfMemory}
use Rattle.td_ops.specs.declared.outcome.Outcome.{Outcome}
use Rattle.td_register.specs.Causes.{refusal_outcome}
use Rattle.td_register.specs.declared.refusal.Fault.{Fault}
use Rattle.td_register.specs.declared.refusal.Fault.TheVariants.{Refused, Memory}

-- the outcome of this fault
abbrev pub EndsWithFault : Fault → Result Outcome OutOfMemory → Type 0
EndsWithFault (Refused f) (Ok o) = o ≡ refusal_outcome f
EndsWithFault (Refused f) (Err e) = ⊥
EndsWithFault Memory (Ok o) = ⊥
EndsWithFault Memory (Err e) = Unit {0}

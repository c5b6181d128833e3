-- Changes that can't want memory: after room for them was reserved they are accepted or refused.
use Rattle.std.specs.Prelude.{Result, Ok, Err}
use Rattle.td_register.specs.declared.refusal.Fault.{Fault}
use Rattle.td_register.specs.declared.refusal.Fault.TheVariants.{Refused, Memory}

-- it is no lack of memory
abbrev pub NeedsNone : {X : Type 0} → Result X Fault → Type 0
NeedsNone (Ok x) = Unit {0}
NeedsNone (Err (Refused f)) = Unit {0}
NeedsNone (Err Memory) = ⊥

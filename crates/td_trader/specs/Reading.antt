-- What the functions answer that judge a query.
use Rattle.std.specs.Prelude.{◌≡◌, None, Some, Result, Ok, Err}
use Rattle.td_exceptions.specs.declared.exception.UserException.{UserException}
use Rattle.td_register.specs.Causes.{Cause}
use Rattle.td_register.specs.declared.refusal.Fault.{Fault}
use Rattle.td_register.specs.declared.refusal.Fault.TheVariants.{Refused, Memory}
use Rattle.td_register.specs.declared.refusal.Refusal.TheVariants.{Raised}

-- nothing is at fault, and what is answered is so; or this is at fault; or memory ran out, which says nothing
abbrev pub ReadsOrFaults : {X : Type 0} → Cause → (X → Type 0) → Result X Fault → Type 0
ReadsOrFaults cause is_so (Ok x) = (cause ≡ None) × is_so x
ReadsOrFaults cause is_so (Err (Refused f)) = cause ≡ Some f
ReadsOrFaults cause is_so (Err Memory) = Unit {0}

-- refused by this exception, or memory ran out
abbrev pub IsRaised : UserException → Fault → Type 0
IsRaised e (Refused f) = f ≡ Raised e
IsRaised e Memory = Unit {0}

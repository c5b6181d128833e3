-- What the functions answer that judge a line.
use Rattle.std.specs.Prelude.{◌≡◌, Bool, true, false, Result, Ok, Err}
use Rattle.td_cdr.specs.declared.memory.Memory.{Memory as OutOfMemory}
use Rattle.td_audit.specs.declared.verdict.Cause.{Cause}
use Rattle.td_audit.specs.declared.verdict.Cause.TheVariants.{Differs}
use Rattle.td_audit.specs.declared.verdict.AuditStop.{AuditStop}
use Rattle.td_audit.specs.declared.verdict.AuditStop.TheVariants as stop

-- A line passes, or fails for a cause; running out of memory tells nothing.
abbrev pub Stops : (passes : Type 0) → (fails : Cause → Type 0) → Result (Unit {0}) AuditStop
    → Type 0
Stops passes fails (Ok x) = passes
Stops passes fails (Err (stop.At cause)) = fails cause
Stops passes fails (Err stop.Memory) = Unit {0}

-- A recorded reply is right, or differs.
abbrev pub IsRightOrDiffers : (right : Type 0) → Cause → Type 0
IsRightOrDiffers right cause = (right → ⊥) × (cause ≡ Differs)

abbrev pub Compares : (right : Type 0) → Result (Unit {0}) AuditStop → Type 0
Compares right r = Stops right (IsRightOrDiffers right) r

-- a comparison that was made
abbrev pub IsVerdict : (same : Result Bool OutOfMemory) → Result (Unit {0}) AuditStop → Type 0
IsVerdict (Ok true) (Ok x) = Unit {0}
IsVerdict (Ok true) (Err s) = ⊥
IsVerdict (Ok false) (Ok x) = ⊥
IsVerdict (Ok false) (Err (stop.At cause)) = cause ≡ Differs
IsVerdict (Ok false) (Err stop.Memory) = ⊥
IsVerdict (Err m) (Ok x) = ⊥
IsVerdict (Err m) (Err (stop.At cause)) = ⊥
IsVerdict (Err m) (Err stop.Memory) = Unit {0}

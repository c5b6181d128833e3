-- From a comparison that was made to what it says.
use Rattle.std.proofs.Common.{Bool, true, false, MatchBool, IfOk, Result, Ok, Err}
use Rattle.td_cdr.specs.declared.memory.Memory.{Memory as OutOfMemory}
use Rattle.td_audit.specs.Verdicts.{Compares, IsVerdict}
use Rattle.td_audit.specs.declared.verdict.AuditStop.{AuditStop}
use Rattle.td_audit.specs.declared.verdict.AuditStop.TheVariants as stop

pub compares : (P : Type 0) (same : Result Bool OutOfMemory) (r : Result (Unit {0}) AuditStop)
    → IfOk same (λ b. MatchBool b P (P → ⊥)) → IsVerdict same r → Compares P r
compares P (Ok true) (Ok x) is j = is
compares P (Ok true) (Err s) is j = absurd j
compares P (Ok false) (Ok x) is j = absurd j
compares P (Ok false) (Err (stop.At cause)) is j = (is, j)
compares P (Ok false) (Err stop.Memory) is j = absurd j
compares P (Err m) (Ok x) is j = absurd j
compares P (Err m) (Err (stop.At cause)) is j = absurd j
compares P (Err m) (Err stop.Memory) is j = tt

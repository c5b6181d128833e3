-- What the functions answer that take a log line by line.
use Rattle.std.specs.Prelude.{◌≡◌, ℕ, List, None, Some, Result, Ok, Err}
use Rattle.td_log.specs.Lines.{line_of}
use Rattle.td_log.specs.declared.line.Line.{Line}
use Rattle.td_walk.specs.declared.trace.Address.{Address}
use Rattle.td_audit.specs.Auditing.{HasVerdict, AuditsLine, AuditState}
use Rattle.td_audit.specs.Verdicts.{Stops}
use Rattle.td_audit.specs.declared.verdict.Cause.{Cause}
use Rattle.td_audit.specs.declared.verdict.Halt.{Halt}
use Rattle.td_audit.specs.declared.verdict.Halt.TheVariants as halt
use Rattle.td_audit.specs.declared.verdict.AuditStop.{AuditStop}
use Rattle.td_audit.specs.declared.verdict.Verdict.{Verdict}
use Rattle.td_audit.specs.declared.verdict.Verdict.TheVariants as verdict

module _ (home : Address) (names : List (List ℕ)) where
  -- what a line that was read does
  abbrev pub StepsTo : AuditState → Line → Result (Unit {0}) AuditStop → AuditState → Type 0
  StepsTo s l r t = Stops (AuditsLine home names s l (Ok t))
      (λ cause. AuditsLine home names s l (Err cause)) r

  -- what a line does: it was read, and passes; or it was read, and fails; or it isn't in the table
  pub record LinePasses (s : AuditState) (first : List ℕ) (t : AuditState) : Type 0 where
    pub line : Line
    pub read : line_of names first ≡ Some line
    pub judged : AuditsLine home names s line (Ok t)

  pub record LineFails (s : AuditState) (first : List ℕ) (cause : Cause) : Type 0 where
    pub line : Line
    pub read : line_of names first ≡ Some line
    pub judged : AuditsLine home names s line (Err cause)

  abbrev pub TakesLine : AuditState → (first : List ℕ) → Result (Unit {0}) Halt → AuditState
      → Type 0
  TakesLine s first (Ok x) t = LinePasses s first t
  TakesLine s first (Err (halt.At cause)) t = LineFails s first cause
  TakesLine s first (Err halt.Strange) t = line_of names first ≡ None
  TakesLine s first (Err halt.Memory) t = Unit {0}

  abbrev pub AuditedOrWants : AuditState → (number : ℕ) → List (List ℕ) → Verdict → Type 0
  AuditedOrWants s n lines verdict.Memory = Unit {0}
  AuditedOrWants s n lines (verdict.Yes m) = HasVerdict home names s n lines (verdict.Yes m)
  AuditedOrWants s n lines (verdict.No m cause) = HasVerdict home names s n lines
      (verdict.No m cause)
  AuditedOrWants s n lines (verdict.Line m) = HasVerdict home names s n lines (verdict.Line m)

abbrev pub verdict_of : Halt → (number : ℕ) → Verdict
verdict_of (halt.At cause) n = verdict.No n cause
verdict_of halt.Strange n = verdict.Line n
verdict_of halt.Memory n = verdict.Memory

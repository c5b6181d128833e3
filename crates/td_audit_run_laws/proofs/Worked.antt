-- The worked examples hold.
use Rattle.std.proofs.Common.{◌≡◌, ℕ, List, [], refl}
use Rattle.std.specs.Fmt.{digits}
use Rattle.td_audit.specs.Auditing.{HasVerdict, Audits, AuditState, over}
use Rattle.td_audit.specs.declared.verdict.Cause.{Cause}
use Rattle.td_audit.specs.declared.verdict.Verdict.{Verdict}
use Rattle.td_audit.specs.declared.verdict.Verdict.TheVariants.{Yes, No, Line}
use Rattle.td_audit_run_laws.specs.Examples.{WorkedCommands, WorkedLines, WorkedUsage, WorkedVerdicts, WorkedWords}
use Rattle.td_command.specs.Printing.{SinkSeen}
use Rattle.td_command.specs.Shelves.{Shelves}
use Rattle.td_file.specs.Files.{Opening}
use Rattle.td_ior.specs.Number.{number_below}
use Rattle.td_log.specs.Words.{lines_of}
use Rattle.td_walk.specs.declared.trace.Address.{Address}

words : WorkedWords
unfolding number_below
words = record {
  audit = refl;
  log = refl;
  most = refl;
  too_many = refl;
  no_trader = refl;
  other = refl;
  alone = refl;
  nothing = refl;
}

lines : WorkedLines
unfolding digits
lines = record { yes = refl; no = refl; strange = refl; denied = refl; printed = refl }

empty-passes : (o : Opening) → Audits o.traders o.home [] (Yes 0)
unfolding lines_of
empty-passes o = over

-- where no line is left, each passed
only-yes : {home : Address} {names : List (List ℕ)} {s : AuditState} {n : ℕ} {v : Verdict} → HasVerdict home names s n [] v
    → v ≡ Yes n
only-yes over = refl

never-no : (o : Opening) (n : ℕ) (cause : Cause) → Audits o.traders o.home [] (No n cause) → ⊥
unfolding lines_of
never-no o n cause h = let other : ◌≡◌ {A = Verdict} (No n cause) (Yes 0) = only-yes h in absurd cc

never-strange : (o : Opening) (n : ℕ) → Audits o.traders o.home [] (Line n) → ⊥
unfolding lines_of
never-strange o n h = let other : ◌≡◌ {A = Verdict} (Line n) (Yes 0) = only-yes h in absurd cc

verdicts : (o : Opening) → WorkedVerdicts o
unfolding digits
verdicts o = record {
  empty = (0, empty-passes o, refl);
  denied = λ h. never-no o h.0 h.1 h.2;
  strange = λ h. never-strange o 1 h.0;
}

usage : (texts : Shelves) (sink : SinkSeen) → WorkedUsage texts sink
usage texts sink = record {
  usage = λ unasked. (refl, unasked, refl);
  other = λ h. (let same = h.0 in absurd cc);
  statuses = refl;
  long = refl;
}

pub worked : WorkedCommands
worked = (words, lines, verdicts, usage)

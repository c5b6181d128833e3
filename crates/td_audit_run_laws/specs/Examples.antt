-- Worked examples: which words are a command on logs, what it prints, and how it ends.
use Rattle.std.specs.Prelude.{◌≡◌, [], ◌∷◌, codes, None, Some}
use Rattle.td_audit.specs.declared.verdict.Cause.TheVariants as cause
use Rattle.td_audit_run.specs.Audits.{Obeys, SaysVerdict, no_line, yes_line}
use Rattle.td_audit_run.specs.Commands.{Audit, Log, command_of}
use Rattle.td_audit_run.specs.Reports.{line_of}
use Rattle.td_audit_run.specs.Status.{status_of}
use Rattle.td_audit_run.specs.declared.audited.Audited.TheVariants.{Printed, Denied, Strange, TooLong, Usage}
use Rattle.td_command.specs.Printing.{SinkSeen}
use Rattle.td_command.specs.Shelves.{Shelves}
use Rattle.td_file.specs.Files.{Opening}

pub record WorkedWords : Type 0 where
  pub audit : command_of (codes "audit" ∷ codes "ring" ∷ codes "log" ∷ [])
      ≡ Some (Audit (codes "ring") (codes "log"))
  pub log : command_of (codes "log" ∷ codes "3" ∷ []) ≡ Some (Log 3)
  pub most : command_of (codes "log" ∷ codes "64" ∷ []) ≡ Some (Log 64)
  -- a ring has 1 to 64 traders
  pub too_many : command_of (codes "log" ∷ codes "65" ∷ []) ≡ None
  pub no_trader : command_of (codes "log" ∷ codes "0" ∷ []) ≡ None
  pub other : command_of (codes "audits" ∷ codes "ring" ∷ codes "log" ∷ []) ≡ None
  -- a log has a file
  pub alone : command_of (codes "audit" ∷ codes "log" ∷ []) ≡ None
  pub nothing : command_of [] ≡ None

-- what is printed, and left on standard error
pub record WorkedLines : Type 0 where
  pub yes : yes_line 12 ≡ codes "yes 12\n"
  pub no : no_line 7 cause.Differs ≡ codes "no 7 differs\n"
  pub strange : line_of (Strange 7) ≡ codes "line 7: log\n"
  pub denied : line_of Denied ≡ codes "status 12\n"
  pub printed : line_of Printed ≡ []

-- an empty log passes, whatever the traders are, and no other line is said of it
pub record WorkedVerdicts (o : Opening) : Type 0 where
  pub empty : SaysVerdict [] o Printed (codes "yes 0\n")
  pub denied : SaysVerdict [] o Denied (codes "no 1 open\n") → ⊥
  pub strange : SaysVerdict [] o (Strange 1) [] → ⊥

-- words that are no command print nothing
pub record WorkedUsage (texts : Shelves) (sink : SinkSeen) : Type 0 where
  pub usage : texts.after ≡ texts.before → Obeys None texts Usage sink sink
  pub other : Obeys None texts Printed sink sink → ⊥
  pub statuses : status_of Usage ≡ 2
  pub long : status_of TooLong ≡ 3

abbrev pub WorkedCommands : Type 0
WorkedCommands =
    WorkedWords × WorkedLines × ((o : Opening) → WorkedVerdicts o)
    × ((texts : Shelves) (sink : SinkSeen) → WorkedUsage texts sink)

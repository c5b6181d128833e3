-- What an audit says of a log that was made.
use Rattle.std.specs.Prelude.{◌≡◌, ◌⊎◌, ℕ, ◌*◌, ◌^◌, ◌<◌, ◌≤◌, List, [], ◌∷◌, codes, length, Option, Some, Ok}
use Rattle.td_audit.specs.Auditing.{Audits, AuditsOrWants}
use Rattle.td_audit.specs.Making.{IsLog}
use Rattle.td_audit.specs.declared.verdict.Verdict.{Verdict}
use Rattle.td_audit.specs.declared.verdict.Verdict.TheVariants.{Yes, Memory as Wanted}
use Rattle.td_audit_run.specs.Audits.{RunsAudit, yes_line}
use Rattle.td_audit_run.specs.Printing.{PrintsFront, PrintsWhole}
use Rattle.td_audit_run.specs.Status.{status_of}
use Rattle.td_audit_run.specs.declared.audited.Audited.{Audited}
use Rattle.td_audit_run.specs.declared.audited.Audited.TheVariants.{Usage, Missing, TooLong, Refused, Strange, Memory}
use Rattle.td_audit_run.specs.declared.audited.Audited.TheVariants.{Printed, Denied, PrintFault}
use Rattle.td_cdr.specs.Lawful.{AreOctets}
use Rattle.td_command.specs.Printing.{SinkSeen}
use Rattle.td_command.specs.Shelves.{Shelves}
use Rattle.td_file.specs.Files.{Opening, opening_of}
use Rattle.td_log.specs.Words.{lines_of}
use Rattle.td_make.specs.Generated.{generated_file}
use Rattle.td_out.specs.Texts.{NamedText, longest_text, text_named}

-- The log that was made of a file's traders passes.
abbrev pub FilesLogsPass : Type 0
FilesLogsPass =
    (text log : List ℕ) (o : Opening) → AreOctets text → opening_of text ≡ Ok o
    → IsLog o.traders o.home log
    → length log < 2 ^ 32 → Audits o.traders o.home log (Yes (length (lines_of log)))

-- ---- the commands

-- the texts of the file and of the log, by their names
pub record HasFileAndLog (texts : Shelves) (file name : List ℕ) (count : ℕ) (log : List ℕ) :
    Type 0 where
  pub list : List NamedText
  pub content : texts.content ≡ Some list
  pub file_is : text_named file list ≡ Some (generated_file count)
  pub log_is : text_named name list ≡ Some log

-- It is said that each line passes, or a front of that where the sink fails; or nothing is said, as a text isn't read,
-- or memory runs out. It is never said that a line fails, or isn't in the table, or that the log is too long.
abbrev pub SaysYes : (log : List ℕ) → Audited → SinkSeen → SinkSeen → Type 0
SaysYes log Printed before after = PrintsWhole (yes_line (length (lines_of log))) before after
SaysYes log PrintFault before after = PrintsFront (yes_line (length (lines_of log))) before after
SaysYes log Missing before after = after ≡ before
SaysYes log TooLong before after = ⊥
SaysYes log Memory before after = after ≡ before
SaysYes log Denied before after = ⊥
SaysYes log (Strange number) before after = ⊥
SaysYes log (Refused number cause) before after = ⊥
SaysYes log Usage before after = ⊥

-- how a run ended
pub record EndsWithYes (log : List ℕ) (before after : SinkSeen) (status : ℕ) : Type 0 where
  pub ended : Audited
  pub says : SaysYes log ended before after
  pub answered : status ≡ status_of ended

-- A log that was made of a ring of so many traders, and the ring's file, are audited.
abbrev pub RingLogsPass : Type 0
RingLogsPass =
    (count : ℕ) (o : Opening) (log file name : List ℕ) (texts : Shelves) (before after : SinkSeen)
    (written0 written1 : Option (List ℕ)) (faults0 faults1 status : ℕ) → 1 ≤ count → count ≤ 64
    → opening_of (generated_file count) ≡ Ok o → IsLog o.traders o.home log
    → HasFileAndLog texts file name count log
    → RunsAudit (codes "audit" ∷ file ∷ name ∷ []) texts before after written0 written1 faults0
    faults1
    status
    → EndsWithYes log before after status

-- ---- how long a ring's log is

-- at most 128 lines for each trader
abbrev pub RingLogsAreShort : Type 0
RingLogsAreShort =
    (count : ℕ) (o : Opening) (log : List ℕ) → 1 ≤ count → count ≤ 64
    → opening_of (generated_file count)
    ≡ Ok o → (is : IsLog o.traders o.home log) → length is.lines ≤ 128 * count

-- no longer than a text that is read may be, which is 64 MiB
abbrev pub RingLogsFit : Type 0
RingLogsFit =
    (count : ℕ) (o : Opening) (log : List ℕ) → 1 ≤ count → count ≤ 64
    → opening_of (generated_file count)
    ≡ Ok o → IsLog o.traders o.home log → length log ≤ longest_text

-- So the verdict on it is that each line passes, or memory runs out.
abbrev pub RingLogsAreRight : Type 0
RingLogsAreRight =
    (count : ℕ) (o : Opening) (log : List ℕ) (v : Verdict) → 1 ≤ count → count ≤ 64
    → opening_of (generated_file count) ≡ Ok o → IsLog o.traders o.home log
    → AuditsOrWants o.traders o.home log v
    → (v ≡ Yes (length (lines_of log))) ⊎ (v ≡ Wanted)

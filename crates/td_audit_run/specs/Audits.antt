-- What a command on logs does.
use Rattle.std.specs.Prelude.{◌≡◌, ℕ, List, [], ◌++◌, codes, decimal, Option, Some, None, Ok, Err}
use Rattle.td_audit.specs.Auditing.{Audits}
use Rattle.td_audit.specs.Making.{IsLog}
use Rattle.td_audit.specs.declared.verdict.Cause.{Cause}
use Rattle.td_audit.specs.declared.verdict.Cause.TheVariants as cause
use Rattle.td_audit.specs.declared.verdict.Verdict.TheVariants.{Yes, No, Line}
use Rattle.td_command.specs.Printing.{SinkSeen}
use Rattle.td_command.specs.Shelves.{Shelves}
use Rattle.td_file.specs.Files.{Opening, opening_of}
use Rattle.td_lines.specs.Steps.{refusal}
use Rattle.td_lines.specs.declared.cause.LineCause.{LineCause}
use Rattle.td_make.specs.Generated.{generated_file}
use Rattle.td_out.specs.Texts.{HasText, NamedText}
use Rattle.td_out.specs.declared.fault.TextFault.TheVariants as fault
use Rattle.td_out.specs.SinkTexts.{GivesText}
use Rattle.td_audit_run.specs.Commands.{Command, Audit, Log, command_of}
use Rattle.td_audit_run.specs.Printing.{PrintsVerdict, PrintsOf}
use Rattle.td_audit_run.specs.Reports.{line_of}
use Rattle.td_audit_run.specs.Status.{status_of}
use Rattle.td_audit_run.specs.declared.audited.Audited.{Audited}
use Rattle.td_audit_run.specs.declared.audited.Audited.TheVariants.{Usage, Missing, TooLong, Refused, Strange, Memory}
use Rattle.td_audit_run.specs.declared.audited.Audited.TheVariants.{Printed, Denied, PrintFault}

-- ---- what is said

abbrev pub cause_word : Cause → List ℕ
cause_word (cause.Net f) = codes "network"
cause_word cause.Refused = codes "refused"
cause_word cause.Differs = codes "differs"
cause_word cause.NotEnded = codes "open"

abbrev pub yes_line : (count : ℕ) → List ℕ
yes_line count = codes "yes " ++ decimal count ++ codes "\n"

abbrev pub no_line : (number : ℕ) → Cause → List ℕ
no_line number why = codes "no " ++ decimal number ++ codes " " ++ cause_word why ++ codes "\n"

-- the line of the verdict on a log
abbrev pub SaysVerdict : (log : List ℕ) → Opening → Audited → List ℕ → Type 0
SaysVerdict log o Printed text = (count : ℕ) × Audits o.traders o.home log (Yes count)
    × (text ≡ yes_line count)
SaysVerdict log o Denied text =
    (number : ℕ) × (why : Cause) × Audits o.traders o.home log (No number why)
    × (text ≡ no_line number why)
SaysVerdict log o (Strange number) text = Audits o.traders o.home log (Line number) × (text ≡ [])
SaysVerdict log o Usage text = ⊥
SaysVerdict log o Missing text = ⊥
SaysVerdict log o TooLong text = ⊥
SaysVerdict log o (Refused number why) text = ⊥
SaysVerdict log o Memory text = ⊥
SaysVerdict log o PrintFault text = ⊥

-- the log of the traders that a file opens
abbrev pub SaysLog : Opening → Audited → List ℕ → Type 0
SaysLog o ended text = (ended ≡ Printed) × IsLog o.traders o.home text

-- ---- an audit

-- The log has this name, and is asked for once the file is accepted.
pub data AuditsNamed (o : Opening) (content : Option (List NamedText)) (name : List ℕ)
    (mid last : ℕ)
    (ended : Audited) (before after : SinkSeen) : Type 0 where
  missing : HasText content name mid last (Err fault.Failed) → ended ≡ Missing → after ≡ before
      → AuditsNamed o content name mid last ended before after
  long : HasText content name mid last (Err fault.TooLong) → ended ≡ TooLong → after ≡ before
      → AuditsNamed o content name mid last ended before after
  no_memory_outcome : ended ≡ Memory → after ≡ before → AuditsNamed o content name mid last ended
      before after
  audits : (log : List ℕ) → HasText content name mid last (Ok log)
      → PrintsVerdict (SaysVerdict log o) ended before after
      → AuditsNamed o content name mid last ended before after

-- with the text of a file, which is refused or opens what is audited
pub data AuditsText (text : List ℕ) (content : Option (List NamedText)) (name : List ℕ)
    (mid last : ℕ)
    (ended : Audited) (before after : SinkSeen) : Type 0 where
  refused : (number : ℕ) (why : LineCause) → opening_of text ≡ Err (refusal number why)
      → ended ≡ Refused number why
      → last ≡ mid → after ≡ before → AuditsText text content name mid last ended before after
  no_memory_outcome : ended ≡ Memory → after ≡ before → AuditsText text content name mid last ended
      before after
  opens : (o : Opening) → opening_of text ≡ Ok o
      → AuditsNamed o content name mid last ended before after
      → AuditsText text content name mid last ended before after

-- with the names of the file and of the log
pub data AuditsFile (texts : Shelves) (file log : List ℕ) (ended : Audited)
    (before after : SinkSeen) : Type 0 where
  missing : HasText texts.content file texts.before texts.after (Err fault.Failed) → ended ≡ Missing
      → after ≡ before → AuditsFile texts file log ended before after
  long : HasText texts.content file texts.before texts.after (Err fault.TooLong) → ended ≡ TooLong
      → after ≡ before → AuditsFile texts file log ended before after
  no_memory_outcome : ended ≡ Memory → after ≡ before → AuditsFile texts file log ended before after
  has : (mid : ℕ) (text : List ℕ) → HasText texts.content file texts.before mid (Ok text)
      → AuditsText text texts.content log mid texts.after ended before after
      → AuditsFile texts file log ended before after

-- ---- a command

abbrev pub IsUnasked : Shelves → Type 0
IsUnasked texts = texts.after ≡ texts.before

-- of the ring of so many traders the log is printed
abbrev pub Obeys : Option Command → Shelves → Audited → SinkSeen → SinkSeen → Type 0
Obeys None texts ended before after = (ended ≡ Usage) × IsUnasked texts × (after ≡ before)
Obeys (Some (Audit file log)) texts ended before after = AuditsFile texts file log ended before
    after
Obeys (Some (Log count)) texts ended before after =
    PrintsOf SaysLog (generated_file count) ended before after × IsUnasked texts

-- a run of the program with these words
pub record RunsAudit (words : List (List ℕ)) (texts : Shelves) (before after : SinkSeen)
    (written0 written1 : Option (List ℕ)) (faults0 faults1 : ℕ) (status : ℕ) : Type 0 where
  pub ended : Audited
  pub obeys : Obeys (command_of words) texts ended before after
  pub answered : status ≡ status_of ended
  pub reported : GivesText (line_of ended) written0 written1 faults0 faults1

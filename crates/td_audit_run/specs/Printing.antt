-- What a command on logs prints, and what becomes of a sink.
use Rattle.std.specs.Prelude.{◌≡◌, ℕ, ◌<◌, ◌≤◌, List, [], length, Ok, Err, ◌⊎◌}
use Rattle.std.specs.Io.KnownBytes.{Appends}
use Rattle.td_command.specs.Printing.{SinkSeen}
use Rattle.td_file.specs.Files.{Opening, opening_of}
use Rattle.td_lines.specs.Steps.{refusal}
use Rattle.td_out.specs.Causes.{Rose}
use Rattle.td_out.specs.Texts.{longest_text}
use Rattle.td_out.specs.SinkTexts.{GivesText}
use Rattle.td_audit_run.specs.declared.audited.Audited.{Audited}
use Rattle.td_audit_run.specs.declared.audited.Audited.TheVariants.{Usage, Missing, TooLong, Refused, Strange, Memory}
use Rattle.td_audit_run.specs.declared.audited.Audited.TheVariants.{Printed, Denied, PrintFault}

-- the sink is given this text whole
abbrev pub PrintsWhole : (text : List ℕ) → SinkSeen → SinkSeen → Type 0
PrintsWhole text before after = Appends before.written after.written text
    × (before.faults ≤ after.faults)

-- or its front, and its count of faults rises
abbrev pub PrintsFront : (text : List ℕ) → SinkSeen → SinkSeen → Type 0
PrintsFront text before after =
    GivesText text before.written after.written before.faults after.faults
    × Rose before.faults after.faults

-- A text is printed, and the command ends as is wanted; or its front is, where the sink fails; or nothing is, when out
-- of memory.
abbrev pub PrintsText : (wanted : Audited) → (text : List ℕ) → Audited → SinkSeen → SinkSeen
    → Type 0
PrintsText wanted text Printed before after = (wanted ≡ Printed) × PrintsWhole text before after
PrintsText wanted text Denied before after = (wanted ≡ Denied) × PrintsWhole text before after
PrintsText wanted text PrintFault before after = PrintsFront text before after
PrintsText wanted text Memory before after = after ≡ before
PrintsText wanted text Usage before after = ⊥
PrintsText wanted text Missing before after = ⊥
PrintsText wanted text TooLong before after = ⊥
PrintsText wanted text (Refused number cause) before after = ⊥
PrintsText wanted text (Strange number) before after = ⊥

-- A text that is said is printed, and the command ends as is said with it; or its front is, where the sink fails. Where
-- memory runs out, or a line isn't in the log's table, nothing is printed.
abbrev pub PrintsVerdict : (Says : Audited → List ℕ → Type 0) → Audited → SinkSeen → SinkSeen
    → Type 0
PrintsVerdict Says Printed before after = (text : List ℕ) × Says Printed text
    × PrintsWhole text before after
PrintsVerdict Says Denied before after = (text : List ℕ) × Says Denied text
    × PrintsWhole text before after
PrintsVerdict Says PrintFault before after =
    (text : List ℕ) × (Says Printed text ⊎ Says Denied text) × PrintsFront text before after
PrintsVerdict Says (Strange number) before after = Says (Strange number) [] × (after ≡ before)
PrintsVerdict Says Memory before after = after ≡ before
PrintsVerdict Says Usage before after = ⊥
PrintsVerdict Says Missing before after = ⊥
PrintsVerdict Says TooLong before after = ⊥
PrintsVerdict Says (Refused number cause) before after = ⊥

-- with the text of a file, which is refused where it opens nothing or is too long
abbrev pub PrintsOf : (Says : Opening → Audited → List ℕ → Type 0) → (text : List ℕ) → Audited
    → SinkSeen → SinkSeen → Type 0
PrintsOf Says text Printed before after =
    (o : Opening) × (opening_of text ≡ Ok o) × PrintsVerdict (Says o) Printed before after
PrintsOf Says text Denied before after =
    (o : Opening) × (opening_of text ≡ Ok o) × PrintsVerdict (Says o) Denied before after
PrintsOf Says text PrintFault before after =
    (o : Opening) × (opening_of text ≡ Ok o) × PrintsVerdict (Says o) PrintFault before after
PrintsOf Says text (Strange number) before after =
    (o : Opening) × (opening_of text ≡ Ok o) × PrintsVerdict (Says o) (Strange number) before after
PrintsOf Says text (Refused number cause) before after =
    (opening_of text ≡ Err (refusal number cause)) × (after ≡ before)
PrintsOf Says text TooLong before after = (longest_text < length text) × (after ≡ before)
PrintsOf Says text Memory before after = after ≡ before
PrintsOf Says text Usage before after = ⊥
PrintsOf Says text Missing before after = ⊥

-- What a command prints, and what becomes of a sink.
use Rattle.std.specs.Prelude.{◌≡◌, ℕ, ◌<◌, ◌≤◌, List, length, Option, Ok, Err}
use Rattle.std.specs.Io.KnownBytes.{Appends}
use Rattle.td_check.specs.Checked.{check_lines}
use Rattle.td_drill.specs.Drills.{Drills}
use Rattle.td_file.specs.Files.{Opening, opening_of}
use Rattle.td_lines.specs.Steps.{refusal}
use Rattle.td_out.specs.Causes.{Rose}
use Rattle.td_out.specs.Texts.{HasText, longest_text}
use Rattle.td_out.specs.declared.fault.TextFault.TheVariants as fault
use Rattle.td_stream.specs.Outside.{Outside}
use Rattle.td_out.specs.SinkTexts.{GivesText}
use Rattle.td_command.specs.Seeds.{WordsBySeeding, seeding_of}
use Rattle.td_command.specs.Shelves.{Shelves}
use Rattle.td_command.specs.declared.ended.Ended.{Ended}
use Rattle.td_command.specs.declared.ended.Ended.TheVariants.{Usage, Missing, TooLong, Refused, Memory, Printed}
use Rattle.td_command.specs.declared.ended.Ended.TheVariants.{PrintFault, Served}

-- the bytes that a sink was given, where it tells, and its count of faults
pub record SinkSeen : Type 0 where
  pub written : Option (List ℕ)
  pub faults : ℕ

abbrev pub sink_seen : Option (List ℕ) → ℕ → SinkSeen
sink_seen written faults = record { written = written; faults = faults }

abbrev pub sink_of : Outside → SinkSeen
sink_of o = sink_seen o.written o.writes

-- the source stays as it was
abbrev pub IsUnread : Outside → Outside → Type 0
IsUnread before after = (after.left ≡ before.left) × (after.reads ≡ before.reads)

-- ---- a text

-- the sink is given this text whole, or its front where its count of faults rises
abbrev pub PrintsText : (text : List ℕ) → Ended → SinkSeen → SinkSeen → Type 0
PrintsText text Printed before after = Appends before.written after.written text
    × (before.faults ≤ after.faults)
PrintsText text PrintFault before after =
    GivesText text before.written after.written before.faults after.faults
    × Rose before.faults after.faults
PrintsText text Usage before after = ⊥
PrintsText text Missing before after = ⊥
PrintsText text TooLong before after = ⊥
PrintsText text (Refused number cause) before after = ⊥
PrintsText text Memory before after = ⊥
PrintsText text (Served end) before after = ⊥

-- so it is with a text that is said, or nothing is printed when out of memory
abbrev pub PrintsOrNoMemory : (Says : List ℕ → Type 0) → Ended → SinkSeen → SinkSeen → Type 0
PrintsOrNoMemory Says Printed before after = (text : List ℕ) × Says text
    × PrintsText text Printed before after
PrintsOrNoMemory Says PrintFault before after = (text : List ℕ) × Says text
    × PrintsText text PrintFault before after
PrintsOrNoMemory Says Memory before after = after ≡ before
PrintsOrNoMemory Says Usage before after = ⊥
PrintsOrNoMemory Says Missing before after = ⊥
PrintsOrNoMemory Says TooLong before after = ⊥
PrintsOrNoMemory Says (Refused number cause) before after = ⊥
PrintsOrNoMemory Says (Served end) before after = ⊥

-- ---- a text that is said of what a file opens

-- with the text of a file, which is refused where it opens nothing or is too long
abbrev pub PrintsOf : (Says : Opening → List ℕ → Type 0) → (text : List ℕ) → Ended → SinkSeen
    → SinkSeen → Type 0
PrintsOf Says text Printed before after =
    (o : Opening) × (opening_of text ≡ Ok o) × PrintsOrNoMemory (Says o) Printed before after
PrintsOf Says text PrintFault before after =
    (o : Opening) × (opening_of text ≡ Ok o) × PrintsOrNoMemory (Says o) PrintFault before after
PrintsOf Says text (Refused number cause) before after =
    (opening_of text ≡ Err (refusal number cause)) × (after ≡ before)
PrintsOf Says text TooLong before after = (longest_text < length text) × (after ≡ before)
PrintsOf Says text Memory before after = after ≡ before
PrintsOf Says text Usage before after = ⊥
PrintsOf Says text Missing before after = ⊥
PrintsOf Says text (Served end) before after = ⊥

-- with the name of a file
abbrev pub PrintsFile : (Says : Opening → List ℕ → Type 0) → Shelves → (name : List ℕ) → Ended
    → SinkSeen → SinkSeen → Type 0
PrintsFile Says texts name Printed before after =
    (text : List ℕ) × HasText texts.content name texts.before texts.after (Ok text)
    × PrintsOf Says text Printed before after
PrintsFile Says texts name PrintFault before after =
    (text : List ℕ) × HasText texts.content name texts.before texts.after (Ok text)
    × PrintsOf Says text PrintFault before after
PrintsFile Says texts name (Refused number cause) before after =
    (text : List ℕ) × HasText texts.content name texts.before texts.after (Ok text)
    × PrintsOf Says text (Refused number cause) before after
PrintsFile Says texts name Missing before after =
    HasText texts.content name texts.before texts.after (Err fault.Failed) × (after ≡ before)
PrintsFile Says texts name TooLong before after =
    HasText texts.content name texts.before texts.after (Err fault.TooLong) × (after ≡ before)
PrintsFile Says texts name Memory before after = after ≡ before
PrintsFile Says texts name Usage before after = ⊥
PrintsFile Says texts name (Served end) before after = ⊥

-- ---- what is said

-- of a file that is checked, its lines
abbrev pub Checks : Opening → List ℕ → Type 0
Checks o text = text ≡ check_lines o

-- of one whose traders are drilled, the drill's line
abbrev pub DrillsWith : WordsBySeeding → Opening → List ℕ → Type 0
DrillsWith seeded o text = Drills (seeded (seeding_of o)) o.home o.traders text

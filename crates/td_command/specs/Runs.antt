-- What a run of the program does.
pub use Rattle.td_command.specs.Seeds.{WordsBySeeding, seeding_of}
pub use Rattle.td_command.specs.Shelves.{Shelves, shelves}
use Rattle.std.specs.Prelude.{◌≡◌, ℕ, ◌≤◌, List, [], map, Option, Some, None, Ok, Err}
use Rattle.td_cdr.specs.Lawful.{AreOctets}
use Rattle.td_file.specs.Files.{Opening, opening_of}
use Rattle.td_lines.specs.Steps.{refusal}
use Rattle.td_lookup.specs.Scenes.{Scene, scene}
use Rattle.td_make.specs.Generated.{generated_file}
use Rattle.td_out.specs.declared.fault.TextFault.TheVariants as fault
use Rattle.td_out.specs.Texts.{HasText}
use Rattle.td_servant.specs.Linking.{peers_seen}
use Rattle.td_servant.specs.declared.entry.Entry.{Entry}
use Rattle.td_stream.specs.declared.end.End.{End}
use Rattle.td_stream.specs.Outside.{Outside}
use Rattle.td_session.specs.Sessions.{Serves}
use Rattle.td_trader.specs.PlainTraders.{PlainTrader}
use Rattle.td_trader.specs.Solos.{no_changes, solo_view, same_marks}
use Rattle.td_command.specs.declared.ended.Ended.{Ended}
use Rattle.td_command.specs.declared.ended.Ended.TheVariants.{Usage, Missing, TooLong, Refused, Memory, Printed}
use Rattle.td_command.specs.declared.ended.Ended.TheVariants.{PrintFault, Served}
use Rattle.td_command.specs.Commands.{Command, Pipe, Check, Make, Drill, command_of}
use Rattle.td_command.specs.Printing.{Checks, DrillsWith, IsUnread, PrintsOrNoMemory, PrintsFile, PrintsOf, sink_of}
use Rattle.td_command.specs.Reports.{line_of}
use Rattle.td_out.specs.SinkTexts.{GivesText}
use Rattle.td_command.specs.Status.{status_of}

-- Where a session begins: at the traders that a file opens, with no iterator kept and no peer called, and with the
-- words that come after the seeding.
abbrev pub first_scene : Opening → WordsBySeeding → Scene
first_scene o seeded = scene (map solo_view o.traders) ([], 1) (peers_seen [] 0)
    (seeded (seeding_of o))

-- A session over the traders that a file opens, which no other session changes. It leaves traders of which each place
-- and each mark is its own.
pub record ServesOpening (o : Opening) (seeded : WordsBySeeding) (end : End)
    (before after : Outside) : Type 0 where
  pub later : Scene
  pub journal : List Entry
  pub serves : Serves no_changes same_marks o.home (first_scene o seeded) later journal end before
      after
  pub traders : List PlainTrader
  pub alone : later.world ≡ map solo_view traders

-- with what a file opens a session is served, or none when out of memory
abbrev pub ServesOpened : Opening → WordsBySeeding → Ended → Outside → Outside → Type 0
ServesOpened o seeded (Served end) before after = ServesOpening o seeded end before after
ServesOpened o seeded Memory before after = after ≡ before
ServesOpened o seeded Usage before after = ⊥
ServesOpened o seeded Missing before after = ⊥
ServesOpened o seeded TooLong before after = ⊥
ServesOpened o seeded (Refused number cause) before after = ⊥
ServesOpened o seeded Printed before after = ⊥
ServesOpened o seeded PrintFault before after = ⊥

-- with the text of a file, which is octets, a session is served, or the file is refused
abbrev pub ServesText : List ℕ → WordsBySeeding → Ended → Outside → Outside → Type 0
ServesText text seeded (Served end) before after =
    (o : Opening) × (opening_of text ≡ Ok o) × AreOctets text
    × ServesOpening o seeded end before after
ServesText text seeded (Refused number cause) before after =
    (opening_of text ≡ Err (refusal number cause)) × (after ≡ before)
ServesText text seeded Memory before after = after ≡ before
ServesText text seeded Usage before after = ⊥
ServesText text seeded Missing before after = ⊥
ServesText text seeded TooLong before after = ⊥
ServesText text seeded Printed before after = ⊥
ServesText text seeded PrintFault before after = ⊥

-- with the name of a file a session is served, or the file can't be had, or it is refused
abbrev pub ServesFile : Shelves → List ℕ → WordsBySeeding → Ended → Outside → Outside → Type 0
ServesFile texts name seeded (Served end) before after =
    (text : List ℕ) × HasText texts.content name texts.before texts.after (Ok text)
    × ServesText text seeded (Served end) before after
ServesFile texts name seeded (Refused number cause) before after =
    (text : List ℕ) × HasText texts.content name texts.before texts.after (Ok text)
    × ServesText text seeded (Refused number cause) before after
ServesFile texts name seeded Missing before after =
    HasText texts.content name texts.before texts.after (Err fault.Failed) × (after ≡ before)
ServesFile texts name seeded TooLong before after =
    HasText texts.content name texts.before texts.after (Err fault.TooLong) × (after ≡ before)
ServesFile texts name seeded Memory before after = after ≡ before
ServesFile texts name seeded Usage before after = ⊥
ServesFile texts name seeded Printed before after = ⊥
ServesFile texts name seeded PrintFault before after = ⊥

-- ---- commands

-- what no file is asked for leaves the texts as they were
abbrev pub IsUnasked : Shelves → Type 0
IsUnasked texts = texts.after ≡ texts.before

-- the words are no command, and nothing is done, or they are one
abbrev pub Obeys : Option Command → Shelves → WordsBySeeding → Ended → Outside → Outside → Type 0
Obeys None texts seeded ended before after = (ended ≡ Usage) × IsUnasked texts × (after ≡ before)
Obeys (Some (Pipe name)) texts seeded ended before after =
    ServesFile texts name seeded ended before after × (texts.before ≤ texts.after)
Obeys (Some (Check name)) texts seeded ended before after =
    PrintsFile Checks texts name ended (sink_of before) (sink_of after)
    × (texts.before ≤ texts.after) × IsUnread before after
Obeys (Some (Make count)) texts seeded ended before after =
    PrintsOrNoMemory (λ text. text ≡ generated_file count) ended (sink_of before) (sink_of after)
    × IsUnasked texts
    × IsUnread before after
Obeys (Some (Drill count)) texts seeded ended before after =
    PrintsOf (DrillsWith seeded) (generated_file count) ended (sink_of before) (sink_of after)
    × IsUnasked texts × IsUnread before after

-- a run of the program with these words
pub record RunsServer (words : List (List ℕ)) (texts : Shelves) (seeded : WordsBySeeding)
    (before after : Outside)
    (written0 written1 : Option (List ℕ)) (faults0 faults1 : ℕ) (status : ℕ) : Type 0 where
  pub ended : Ended
  pub obeys : Obeys (command_of words) texts seeded ended before after
  pub answered : status ≡ status_of ended
  pub reported : GivesText (line_of ended) written0 written1 faults0 faults1

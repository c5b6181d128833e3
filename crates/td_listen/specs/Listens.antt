-- What `listen FILE` does.
use Rattle.std.specs.Prelude.{◌≡◌, ℕ, ◌≤◌, List, [], ◌∷◌, codes, if◌then◌else◌, Option, None, Some, Ok, Err}
use Rattle.std.specs.Str.{bytes_eq}
use Rattle.td_accept.specs.Doors.{Door}
use Rattle.td_cdr.specs.Lawful.{AreOctets}
use Rattle.td_command.specs.Reports.{status_line}
use Rattle.td_out.specs.SinkTexts.{GivesText}
use Rattle.td_command.specs.Reports.{line_of as command_line}
use Rattle.td_command.specs.Shelves.{Shelves}
use Rattle.td_command.specs.declared.ended.Ended.TheVariants as ended
use Rattle.td_file.specs.Files.{Opening, opening_of}
use Rattle.td_lines.specs.Steps.{refusal}
use Rattle.td_out.specs.Causes.{Rose}
use Rattle.td_out.specs.Texts.{HasText}
use Rattle.td_out.specs.declared.fault.TextFault.TheVariants as fault
use Rattle.td_stream.specs.Outside.{Outside}
use Rattle.td_sessions.specs.Sessions.{HandsSome, WordsBySeeding, HandedSessions}
use Rattle.td_sessions.specs.Whole.{ServesSessions}
use Rattle.td_listen.specs.declared.listened.Listened.{Listened}
use Rattle.td_listen.specs.declared.listened.Listened.TheVariants.{Usage, Missing, TooLong, Refused, Memory, Unaccepted}
use Rattle.td_listen.specs.declared.listened.Listened.TheVariants.{Over}

-- the command is two words, `listen` and the name of a file
abbrev pub file_named : List (List ℕ) → Option (List ℕ)
file_named (word ∷ name ∷ []) = if bytes_eq word (codes "listen") then Some name else None
file_named other = None

abbrev pub status_of : Listened → ℕ
status_of Usage = 2
status_of Missing = 10
status_of TooLong = 3
status_of (Refused number cause) = 3
status_of Memory = 9
status_of Unaccepted = 11
status_of Over = 0

-- the line for it; where no visitor was left there is none
abbrev pub line_of : Listened → List ℕ
line_of Usage = command_line ended.Usage
line_of Missing = command_line ended.Missing
line_of TooLong = command_line ended.TooLong
line_of (Refused number cause) = command_line (ended.Refused number cause)
line_of Memory = command_line ended.Memory
line_of Unaccepted = status_line 11
line_of Over = []

-- what the acceptor tells, its count of faults, and what was handed on
pub record ListenState (X : Type 0) : Type 0 where
  pub door : Option (Door X)
  pub faults : ℕ
  pub content : Option (HandedSessions X)

abbrev pub front : {X : Type 0} → Option (Door X) → ℕ → Option (HandedSessions X) → ListenState X
front door faults content = record { door = door; faults = faults; content = content }

module _ {X : Type 0} (outside_of : X → Outside) (seeded : X → WordsBySeeding) where
  -- With what a file opens all visitors were served. Or the acceptor failed, or memory ran out: some sessions may
  -- have been handed on then, but no traders.
  abbrev pub ServesOpening : Opening → Listened → ListenState X → ListenState X → Type 0
  ServesOpening o Over before after =
      ServesSessions outside_of seeded o.home o.seed o.traders before.door before.content after.door
      after.content
  ServesOpening o Unaccepted before after = Rose before.faults after.faults
      × HandsSome before.content after.content
  ServesOpening o Memory before after = HandsSome before.content after.content
  ServesOpening o Usage before after = ⊥
  ServesOpening o Missing before after = ⊥
  ServesOpening o TooLong before after = ⊥
  ServesOpening o (Refused number cause) before after = ⊥

  -- with the text of a file, which is octets, the same, or the file is refused
  abbrev pub ServesText : List ℕ → Listened → ListenState X → ListenState X → Type 0
  ServesText text Over before after =
      (o : Opening) × (opening_of text ≡ Ok o) × AreOctets text × ServesOpening o Over before after
  ServesText text Unaccepted before after =
      (o : Opening) × (opening_of text ≡ Ok o) × ServesOpening o Unaccepted before after
  ServesText text (Refused number cause) before after =
      (opening_of text ≡ Err (refusal number cause)) × (after ≡ before)
  ServesText text Memory before after = HandsSome before.content after.content
  ServesText text Usage before after = ⊥
  ServesText text Missing before after = ⊥
  ServesText text TooLong before after = ⊥

  -- with the name of a file the same, or the file can't be had
  abbrev pub ServesFile : Shelves → List ℕ → Listened → ListenState X → ListenState X → Type 0
  ServesFile texts name Over before after =
      (text : List ℕ) × HasText texts.content name texts.before texts.after (Ok text)
      × ServesText text Over before after
  ServesFile texts name Unaccepted before after =
      (text : List ℕ) × HasText texts.content name texts.before texts.after (Ok text)
      × ServesText text Unaccepted before after
  ServesFile texts name (Refused number cause) before after =
      (text : List ℕ) × HasText texts.content name texts.before texts.after (Ok text)
      × ServesText text (Refused number cause) before after
  ServesFile texts name Missing before after =
      HasText texts.content name texts.before texts.after (Err fault.Failed) × (after ≡ before)
  ServesFile texts name TooLong before after =
      HasText texts.content name texts.before texts.after (Err fault.TooLong) × (after ≡ before)
  ServesFile texts name Memory before after = HandsSome before.content after.content
  ServesFile texts name Usage before after = ⊥

  -- the words are no such command, and nothing is done, or they name a file
  abbrev pub Obeys : Option (List ℕ) → Shelves → Listened → ListenState X → ListenState X → Type 0
  Obeys None texts listened before after =
      (listened ≡ Usage) × (texts.after ≡ texts.before) × (after ≡ before)
  Obeys (Some name) texts listened before after =
      ServesFile texts name listened before after × (texts.before ≤ texts.after)

  -- a run of the program with these words
  pub record Listens (words : List (List ℕ)) (texts : Shelves) (before after : ListenState X)
      (written0 written1 : Option (List ℕ)) (faults0 faults1 : ℕ) (status : ℕ) : Type 0 where
    pub listened : Listened
    pub obeys : Obeys (file_named words) texts listened before after
    pub answered : status ≡ status_of listened
    pub reported : GivesText (line_of listened) written0 written1 faults0 faults1

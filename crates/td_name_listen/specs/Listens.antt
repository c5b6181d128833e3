-- What `listen names HOST PORT` does.
use Rattle.std.specs.Prelude.{◌≡◌, ℕ, ◌&&◌, List, [], ◌∷◌, codes, if◌then◌else◌, Option, None, Some}
use Rattle.std.specs.Str.{bytes_eq}
use Rattle.td_accept.specs.Doors.{Door}
use Rattle.td_name_command.specs.Words.{home_named}
use Rattle.td_name_sessions.specs.Sessions.{HandsSome, WordsBySeeding, HandedSessions}
use Rattle.td_name_sessions.specs.Whole.{ServesSessions}
use Rattle.td_names.specs.declared.address.Address.{Address}
use Rattle.td_naming.specs.Histories.{Past, past}
use Rattle.td_out.specs.Causes.{Rose}
use Rattle.td_stream.specs.Outside.{Outside}
use Rattle.td_out.specs.SinkTexts.{GivesText}
use Rattle.td_name_listen.specs.declared.listened.Listened.{Listened}
use Rattle.td_name_listen.specs.declared.listened.Listened.TheVariants.{Usage, Memory, Unaccepted, Over}

-- where the words let naming contexts be reached; other words are no command
abbrev pub home_of : List (List ℕ) → Option Address
home_of (word ∷ what ∷ host ∷ port ∷ []) =
    if bytes_eq word (codes "listen")
    && bytes_eq what (codes "names") then home_named host port else None
home_of other = None

abbrev pub status_of : Listened → ℕ
status_of Usage = 2
status_of Memory = 9
status_of Unaccepted = 11
status_of Over = 0

-- the line for it; where no visitor was left there is none
abbrev pub line_of : Listened → List ℕ
line_of Usage = codes "usage\n"
line_of Memory = codes "status 9\n"
line_of Unaccepted = codes "status 11\n"
line_of Over = []

-- what the acceptor tells, its count of faults, and what was handed on
pub record ListenState (X : Type 0) : Type 0 where
  pub door : Option (Door X)
  pub faults : ℕ
  pub content : Option (HandedSessions X)

abbrev pub front : {X : Type 0} → Option (Door X) → ℕ → Option (HandedSessions X) → ListenState X
front door faults content = record { door = door; faults = faults; content = content }

module _ {X : Type 0} (outside_of : X → Outside) (seeded : X → WordsBySeeding) where
  -- With these contexts all visitors were served. Or the acceptor failed, or memory ran out: some sessions may have
  -- been handed on then, but no contexts.
  abbrev pub ServesNew : Past → Listened → ListenState X → ListenState X → Type 0
  ServesNew contexts Over before after =
      ServesSessions outside_of seeded contexts before.door before.content after.door after.content
  ServesNew contexts Unaccepted before after = Rose before.faults after.faults
      × HandsSome before.content after.content
  ServesNew contexts Memory before after = HandsSome before.content after.content
  ServesNew contexts Usage before after = ⊥

  -- so it is with the root alone, without bindings, at this address
  abbrev pub ServesAt : Address → Listened → ListenState X → ListenState X → Type 0
  ServesAt home listened before after = ServesNew (past home []) listened before after

  -- the words are no such command, and nothing is done, or they name an address
  abbrev pub Obeys : Option Address → Listened → ListenState X → ListenState X → Type 0
  Obeys None listened before after = (listened ≡ Usage) × (after ≡ before)
  Obeys (Some home) listened before after = ServesAt home listened before after

  -- a run of the program with these words
  pub record Listens (words : List (List ℕ)) (before after : ListenState X)
      (written0 written1 : Option (List ℕ)) (faults0 faults1 : ℕ) (status : ℕ) : Type 0 where
    pub listened : Listened
    pub obeys : Obeys (home_of words) listened before after
    pub answered : status ≡ status_of listened
    pub reported : GivesText (line_of listened) written0 written1 faults0 faults1

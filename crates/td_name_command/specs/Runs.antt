-- What a run of the program does.
use Rattle.std.specs.Prelude.{◌≡◌, ℕ, List, [], Option, Some, None}
use Rattle.td_name_session.specs.Scenes.{Scene, scene}
use Rattle.td_name_session.specs.Sessions.{Serves}
use Rattle.td_names.specs.declared.address.Address.{Address}
use Rattle.td_naming.specs.Alone.{no_changes, solo_view}
use Rattle.td_naming.specs.Histories.{Past, past}
use Rattle.td_stream.specs.Outside.{Outside}
use Rattle.td_stream.specs.declared.end.End.{End}
use Rattle.td_out.specs.SinkTexts.{GivesText}
use Rattle.td_name_command.specs.Ends.{line_of, status_of}
use Rattle.td_name_command.specs.Words.{home_of}
use Rattle.td_name_command.specs.declared.ended.Ended.{Ended}
use Rattle.td_name_command.specs.declared.ended.Ended.TheVariants.{Usage, Memory, Served}

-- Where a session begins: at the root alone, without bindings, with no iterator kept.
abbrev pub first_scene : Address → Scene
first_scene home = scene (solo_view (past home [])) ([], 1)

-- A session over contexts that no other session changes. It leaves a history of which each change is its own.
pub record ServesNew (home : Address) (end : End) (before after : Outside) : Type 0 where
  pub later : Scene
  pub journal : List ℕ
  pub serves : Serves no_changes (first_scene home) later journal end before after
  pub history : Past
  pub alone : later.names ≡ solo_view history

-- a session is served, or none when out of memory
abbrev pub ObeysAt : Address → Ended → Outside → Outside → Type 0
ObeysAt home (Served end) before after = ServesNew home end before after
ObeysAt home Memory before after = after ≡ before
ObeysAt home Usage before after = ⊥

-- the words are no command, and nothing is done, or they are one
abbrev pub Obeys : Option Address → Ended → Outside → Outside → Type 0
Obeys None ended before after = (ended ≡ Usage) × (after ≡ before)
Obeys (Some home) ended before after = ObeysAt home ended before after

-- a run of the program with these words
pub record RunsNameServer (words : List (List ℕ)) (before after : Outside)
    (written0 written1 : Option (List ℕ)) (faults0 faults1 : ℕ) (status : ℕ) : Type 0 where
  pub ended : Ended
  pub obeys : Obeys (home_of words) ended before after
  pub answered : status ≡ status_of ended
  pub reported : GivesText (line_of ended) written0 written1 faults0 faults1

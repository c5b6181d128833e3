-- How a session stands between two messages.
use Rattle.std.specs.Prelude.{ℕ, List, Option}
use Rattle.td_lookup.specs.Scenes.{Scene}
use Rattle.td_servant.specs.declared.entry.Entry.{Entry}
use Rattle.td_dispatch.specs.Backends.{BackendSeen, scene_of}
use Rattle.td_session_runs.specs.Turns.{ServedRequest, Turn}
use Rattle.td_walk.specs.declared.trace.Address.{Address}
use Rattle.td_session.specs.Rooms.{Room}

-- what a session stands on with the iterators of its room
abbrev pub scene_in : BackendSeen → Room → Scene
scene_in seen room = scene_of seen room.desk

-- where the group of traders is reached, the scene, and what was noted so far
pub record Stage : Type 0 where
  pub home : Address
  pub scene : Scene
  pub journal : List Entry

abbrev pub stage : Address → Scene → List Entry → Stage
stage home now journal = record { home = home; scene = now; journal = journal }

abbrev pub stage_in : BackendSeen → Room → Stage
stage_in seen room = stage room.home (scene_in seen room) room.journal

-- a message that was served, what is noted of it, its answer, and how everything stands then
abbrev pub turn_of : (message : List ℕ) → Option ServedRequest → (reply : List ℕ) → Scene → Turn
turn_of message noted reply after = record {
  message = message;
  request = noted;
  reply = reply;
  after = after;
}

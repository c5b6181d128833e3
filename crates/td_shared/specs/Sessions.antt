-- A session whose server shares a desk of iterators, from one state of its source and its sink to another.
use Rattle.std.specs.Prelude.{◌≡◌, Bool, true, false, List, []}
use Rattle.td_cdr.specs.Marks.{Marks}
use Rattle.td_cell.specs.declared.pass.View.{View}
use Rattle.td_desk.specs.declared.event.Event.{Event}
use Rattle.td_register.specs.declared.history.Accepted.{Accepted}
use Rattle.td_dispatch.specs.Backends.{BackendSeen, scene_of}
use Rattle.td_session.specs.Rooms.{Room}
use Rattle.td_session.specs.Stages.{stage}
use Rattle.td_stream.specs.Outside.{Outside}
use Rattle.td_stream.specs.Streams.{Streams}
use Rattle.td_stream.specs.declared.end.End.{End}
use Rattle.td_stream.specs.declared.end.End.TheVariants.{Long, Memory}
use Rattle.td_shared.specs.Serving.{ServesShared, StaysShared}
use Rattle.td_shared.specs.Stages.{SharedStage, shared_in, shared_stage}
use Rattle.td_shared.specs.declared.entry.SharedEntry.{SharedEntry}
use Rattle.td_walk.specs.declared.trace.Address.{Address}

-- A stream whose servant found the desk full, and so answered no more, is too long: that is why it ended when out
-- of memory.
abbrev pub ends_by : (full : Bool) → End → End
ends_by false end = end
ends_by true Memory = Long
ends_by true end = end

-- The messages were served one after the other, each where the one before has left everything; they are cut out of the
-- bytes that were taken, and their answers were given. Where the desk was full behind them, it was tried for one more,
-- where the stream is told that memory ran out.
pub record ServesSharing (others : List Accepted → Type 0) (later : Marks → Marks → Type 0)
    (s u : SharedStage) (end : End) (before after : Outside) : Type 0 where
  pub full : Bool
  pub streamed : End
  pub end_is : end ≡ ends_by full streamed
  pub stream : Streams (ServesShared others later) (StaysShared full) s u streamed before after

-- A session with a room of its own: it began with no iterator kept and nothing noted there, and ended with what is kept
-- there then.
pub record ServesFrom (others : List Accepted → Type 0) (later : Marks → Marks → Type 0)
    (home : Address) (seen : BackendSeen) (view : View (List Event)) (journal : List SharedEntry)
    (seen_then : BackendSeen) (view_then : View (List Event)) (journal_then : List SharedEntry)
    (end : End) (before after : Outside) : Type 0 where
  pub room : Room
  pub serves : ServesSharing others later
      (shared_stage (stage home (scene_of seen ([], 1)) []) view journal)
      (shared_in seen_then room view_then journal_then) end before after

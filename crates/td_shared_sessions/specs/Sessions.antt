-- Sessions of a server beside each other, each over what it has seen of the traders and of the desk of iterators.
use Rattle.std.specs.Prelude.{◌≡◌, ℕ, List, [], map, Option}
use Rattle.std.specs.List.{AllZip}
use Rattle.td_cdr.specs.Marks.{Later, Marks}
use Rattle.td_cell.specs.declared.pass.View.{View as Knowledge}
use Rattle.td_desk.specs.declared.event.Event.{Event}
use Rattle.td_fed.specs.Trails.{own_at}
use Rattle.td_register.specs.declared.history.Accepted.{Accepted}
use Rattle.td_servant.specs.Linking.{peers_seen}
use Rattle.td_dispatch.specs.Backends.{BackendSeen, backend_seen}
use Rattle.td_server.specs.Kinds.{ServerKind}
use Rattle.td_server.specs.Rows.{Rows}
use Rattle.td_server.specs.Sessions.{SessionStart as BegunOf, SessionResult as EndedOf, HandsSome as HandsSomeOf}
use Rattle.td_server.specs.Sessions.{WordsBySeeding as SeededWords, ServesSession as ServingOf, ServerState as StandOf}
use Rattle.td_server.specs.Sessions.{HandedSessions as HandedOf}
use Rattle.td_sessions.specs.Sessions.{Continues, Joins, bare}
use Rattle.td_shared.specs.DeskSeen.{DeskContinues, DeskJoins, DeskSeen, bare_desk, desk_seen}
use Rattle.td_shared.specs.Sessions.{ServesFrom}
use Rattle.td_shared.specs.declared.entry.SharedEntry.{SharedEntry}
use Rattle.td_stream.specs.Outside.{Outside}
use Rattle.td_stream.specs.declared.end.End.{End}
use Rattle.td_trader.specs.Admitted.{AreAdmitted}
use Rattle.td_trader.specs.Worlds.{View}
use Rattle.td_trader.specs.declared.solo.Solo.{Solo}
use Rattle.td_walk.specs.declared.trace.Address.{Address}

-- ---- what is seen

-- of the traders, and of the desk
pub record SharedWorld : Type 0 where
  pub traders : List View
  pub desk : DeskSeen

abbrev pub shared_world : List View → DeskSeen → SharedWorld
shared_world traders desk = record { traders = traders; desk = desk }

-- what is shared: each trader, and the desk
pub data SharedThing : Type 0 where
  a_trader : ℕ → SharedThing
  the_desk : SharedThing

-- the places of one's own changes of a trader, and of one's own calls of the desk
abbrev pub own_by : SharedWorld → SharedThing → List ℕ
own_by w (a_trader k) = own_at w.traders k
own_by w the_desk = w.desk.own

-- what another has seen, with nothing of one's own
abbrev pub bare_world : SharedWorld → SharedWorld
bare_world w = shared_world (map bare w.traders) (bare_desk w.desk)

-- the second may be what the first has become
abbrev pub WorldContinues : SharedWorld → SharedWorld → Type 0
WorldContinues v w = AllZip Continues v.traders w.traders × DeskContinues v.desk w.desk

-- What was seen before a session was taken in and what the session has seen lead to what is seen then.
abbrev pub WorldJoins : SharedWorld → SharedWorld → SharedWorld → Type 0
WorldJoins w e u = Rows Joins w.traders e.traders u.traders × DeskJoins w.desk e.desk u.desk

-- ---- one session

-- A session over traders and a desk that others act on too: it began with this view of the traders, these random words
-- and this knowledge of the desk, with no peer called, and ended with this view and this knowledge.
pub record SharesTraders (others : List Accepted → Type 0) (later : Marks → Marks → Type 0)
    (home : Address) (first : List View) (words : ℕ → ℕ) (began : Knowledge (List Event))
    (noted : List SharedEntry) (last : List View) (ended : Knowledge (List Event))
    (journal : List SharedEntry) (end : End) (before after : Outside) : Type 0 where
  pub seen_after : BackendSeen
  pub seen : seen_after.world ≡ last
  pub serves : ServesFrom others later home (backend_seen first (peers_seen [] 0) words) began noted
      seen_after ended journal end before after

-- It began with what is seen here, with nothing noted, and ended with what is seen there, whatever others did meanwhile
-- to the traders by changes that can be written.
pub record SharesOver (home : Address) (first : SharedWorld) (words : ℕ → ℕ)
    (journal : List SharedEntry) (end : End) (before after : Outside)
    (last : SharedWorld) : Type 0 where
  pub began : Knowledge (List Event)
  pub ended : Knowledge (List Event)
  pub desk_before : desk_seen began ≡ first.desk
  pub desk_after : desk_seen ended ≡ last.desk
  pub shares : SharesTraders AreAdmitted Later home first.traders words began [] last.traders ended
      journal end before after

-- what is kept of a session: how it ended, and what was noted of its messages
pub record SharedKept : Type 0 where
  pub end : End
  pub journal : List SharedEntry

-- ---- the kind of server

-- Its sessions share traders and a desk of iterators. Each is given the address where the traders are reached, whatever
-- others do meanwhile, and in the end the traders are handed on.
abbrev pub sharing : ServerKind
sharing = record {
  World = SharedWorld;
  Given = Address;
  Outside = Outside;
  Kept = SharedKept;
  Closed = Solo;
  Thing = SharedThing;
  bare = bare_world;
  Continues = WorldContinues;
  Joins = WorldJoins;
  own = own_by;
  Serves = λ home first words before after kept last.
      SharesOver home first words kept.journal kept.end before after last;
}

-- ---- its sessions

-- the random words that come after each seeding
abbrev pub WordsBySeeding : Type 0
WordsBySeeding = SeededWords

-- the sessions that were handed on, in order, and the traders, once they were
abbrev pub HandedSessions : Type 0 → Type 0
HandedSessions X = HandedOf sharing X

-- these sessions were handed on, and no traders
abbrev pub HandsSome : {X : Type 0} → (content after : Option (HandedSessions X)) → Type 0
HandsSome {X} = HandsSomeOf {k = sharing} {X = X}

-- a session that begins, and one that has ended
abbrev pub SessionStart : Type 0 → Type 0
SessionStart X = BegunOf sharing X

abbrev pub SessionResult : Type 0 → Type 0
SessionResult X = EndedOf sharing X

-- the session was served, whatever others did meanwhile
abbrev pub ServesSession : {X : Type 0} → (X → Outside) → (X → WordsBySeeding) → SessionStart X
    → SessionResult X → Type 0
ServesSession {X} = ServingOf {k = sharing} {X = X}

-- between two visitors
abbrev pub ServerState : Type 0 → Type 0
ServerState X = StandOf sharing X

-- All sessions of a server.
use Rattle.std.specs.Prelude.{◌≡◌, ℕ, List, [], Option, option_map}
use Rattle.td_accept.specs.Doors.{Door, bound_to}
use Rattle.td_group.specs.Rows.{Rows}
use Rattle.td_server.specs.Sessions.{with_closed}
use Rattle.td_server.specs.Whole.{Visit as VisitOf, Whole as WholeOf}
use Rattle.td_sessions.specs.Sessions.{Closes}
use Rattle.td_sessions.specs.Whole.{opened_views}
use Rattle.td_shared.specs.DeskSeen.{DeskSeen}
use Rattle.td_shared_sessions.specs.Sessions.{WordsBySeeding, SharedWorld, ServerState, HandedSessions, shared_world}
use Rattle.td_shared_sessions.specs.Sessions.{sharing}
use Rattle.td_stream.specs.Outside.{Outside}
use Rattle.td_trader.specs.PlainTraders.{PlainTrader}
use Rattle.td_trader.specs.Worlds.{View}
use Rattle.td_trader.specs.declared.solo.Solo.{Solo}
use Rattle.td_walk.specs.declared.trace.Address.{Address}

-- a session, from the coming of its visitor to its end
abbrev pub Visit : Type 0 → Type 0
Visit X = VisitOf sharing X

-- All sessions of a server, from one stand to another: each visitor was served once, under its number, and handed on.
abbrev pub Whole : {X : Type 0} → (X → Outside) → (X → WordsBySeeding) → (s t : ServerState X)
    → Type 0
Whole {X} = WholeOf {k = sharing} {X = X}

-- a desk on which nothing was done
abbrev pub new_desk : DeskSeen
new_desk = record { history = []; own = [] }

-- traders that were just opened, and a new desk, as they are seen
abbrev pub opened_world : List PlainTrader → SharedWorld
opened_world traders = shared_world (opened_views traders) new_desk

-- The traders in the end are handed on: those that were opened, gone on from what was seen.
pub record HandsOn {X : Type 0} (opened : List PlainTrader) (seen : List View)
    (content content_after : Option (HandedSessions X)) : Type 0 where
  pub solo : Solo
  pub closes : Rows Closes opened seen solo.traders.items
  pub handed_on : content_after ≡ option_map (with_closed {k = sharing} solo) content

-- Sessions were served from this stand on to the end, and then the traders handed on.
pub record ServesFrom {X : Type 0} (outside_of : X → Outside) (seeded : X → WordsBySeeding)
    (opened : List PlainTrader) (start : ServerState X) (door_after : Option (Door X))
    (content_after : Option (HandedSessions X)) : Type 0 where
  pub end : ServerState X
  pub whole : Whole outside_of seeded start end
  pub left : door_after ≡ end.door
  pub hands : HandsOn opened end.world.traders end.content content_after

-- where a server stands that was bound to its address
abbrev pub server_start : {X : Type 0} → Address → List ℕ → List PlainTrader → Option (Door X)
    → Option (HandedSessions X) → ServerState X
server_start home seed traders door content = record {
  given = home;
  seed = seed;
  door = option_map (bound_to home.host home.port) door;
  content = content;
  world = opened_world traders;
}

-- All sessions of a server over these traders, from the binding of its acceptor to the traders in the end.
abbrev pub ServesSessions : {X : Type 0} → (X → Outside) → (X → WordsBySeeding) → Address → List ℕ
    → List PlainTrader
    → Option (Door X) → Option (HandedSessions X) → Option (Door X) → Option (HandedSessions X)
    → Type 0
ServesSessions outside_of seeded home seed traders door content door_after content_after =
    ServesFrom outside_of seeded traders (server_start home seed traders door content)
    door_after content_after

-- All sessions of a server.
use Rattle.std.specs.Prelude.{◌≡◌, ℕ, List, [], map, Option, option_map}
use Rattle.td_accept.specs.Doors.{Door, bound_to}
use Rattle.td_group.specs.Rows.{Rows}
use Rattle.td_server.specs.Sessions.{with_closed}
use Rattle.td_server.specs.Whole.{AreApart as AreApartOf, BeginsAfter as BeginsAfterOf, HasChangedOnce as HasChangedOf}
use Rattle.td_server.specs.Whole.{Visit as VisitOf, Whole as WholeOf}
use Rattle.td_stream.specs.Outside.{Outside}
use Rattle.td_trader.specs.declared.solo.Solo.{Solo}
use Rattle.td_trader.specs.PlainTraders.{PlainTrader}
use Rattle.td_trader.specs.Worlds.{View, view_of}
use Rattle.td_walk.specs.declared.trace.Address.{Address}
use Rattle.td_sessions.specs.Sessions.{SessionStart, Closes, WordsBySeeding, ServerState, HandedSessions, trading}

-- a session, from the coming of its visitor to its end
abbrev pub Visit : Type 0 → Type 0
Visit X = VisitOf trading X

-- A session that begins with the server's address and seed, with what was seen of the traders at this stand or has
-- become of it, and with nothing of its own.
abbrev pub BeginsAfter : {X : Type 0} → ServerState X → SessionStart X → Type 0
BeginsAfter {X} = BeginsAfterOf {k = trading} {X = X}

-- one of the sessions has made the change at this place of trader k
abbrev pub HasChanged : {X : Type 0} → (k place : ℕ) → List (Visit X) → Type 0
HasChanged {X} = HasChangedOf {k = trading} {X = X}

-- no two of them have made one change
abbrev pub AreApart : {X : Type 0} → List (Visit X) → Type 0
AreApart {X} = AreApartOf {k = trading} {X = X}

-- All sessions of a server, from one stand to another: each visitor was served once, under its number, and handed on.
abbrev pub Whole : {X : Type 0} → (X → Outside) → (X → WordsBySeeding) → (s t : ServerState X)
    → Type 0
Whole {X} = WholeOf {k = trading} {X = X}

-- traders that were just opened, as they are seen
abbrev pub opened_views : List PlainTrader → List View
opened_views ts = map (λ (t : PlainTrader). view_of t [] []) ts

-- The traders in the end are handed on: those that were opened, gone on from what was seen.
pub record HandsOn {X : Type 0} (opened : List PlainTrader) (world : List View)
    (content content_after : Option (HandedSessions X)) : Type 0 where
  pub solo : Solo
  pub closes : Rows Closes opened world solo.traders.items
  pub handed_on : content_after ≡ option_map (with_closed {k = trading} solo) content

-- Sessions were served from this stand on to the end, and then the traders handed on.
pub record ServesFrom {X : Type 0} (outside_of : X → Outside) (seeded : X → WordsBySeeding)
    (opened : List PlainTrader) (start : ServerState X) (door_after : Option (Door X))
    (content_after : Option (HandedSessions X)) : Type 0 where
  pub end : ServerState X
  pub whole : Whole outside_of seeded start end
  pub left : door_after ≡ end.door
  pub hands : HandsOn opened end.world end.content content_after

-- where a server stands that was bound to its address
abbrev pub server_start : {X : Type 0} → Address → List ℕ → List PlainTrader → Option (Door X)
    → Option (HandedSessions X) → ServerState X
server_start home seed traders door content = record {
  given = home;
  seed = seed;
  door = option_map (bound_to home.host home.port) door;
  content = content;
  world = opened_views traders;
}

-- All sessions of a server over these traders, from the binding of its acceptor to the traders in the end.
pub record ServesSessions {X : Type 0} (outside_of : X → Outside) (seeded : X → WordsBySeeding)
    (home : Address)
    (seed : List ℕ) (traders : List PlainTrader) (door : Option (Door X))
    (content : Option (HandedSessions X))
    (door_after : Option (Door X)) (content_after : Option (HandedSessions X)) : Type 0 where
  pub end : ServerState X
  pub whole : Whole outside_of seeded (server_start home seed traders door content) end
  pub left : door_after ≡ end.door
  pub hands : HandsOn traders end.world end.content content_after

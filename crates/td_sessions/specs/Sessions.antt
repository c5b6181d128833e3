-- Sessions of a server beside each other, each over what it has seen of the traders.
use Rattle.std.specs.Prelude.{◌≡◌, ℕ, ◌≤◌, ◌<◌, false, List, [], map, length, Option}
use Rattle.std.specs.List.{AllZip}
use Rattle.td_cdr.specs.Marks.{In, Later, Marks}
use Rattle.td_cell.specs.Lists.{Rises, itself, merge}
use Rattle.td_fed.specs.Trails.{own_at}
use Rattle.td_lookup.specs.Scenes.{Scene, scene}
use Rattle.td_register.specs.declared.history.Accepted.{Accepted}
use Rattle.td_servant.specs.Linking.{peers_seen}
use Rattle.td_servant.specs.declared.entry.Entry.{Entry}
use Rattle.td_server.specs.Kinds.{ServerKind}
use Rattle.td_server.specs.Rows.{Rows}
use Rattle.td_server.specs.Sessions.{SessionStart as BegunOf, SessionResult as EndedOf, HandsSome as HandsSomeOf}
use Rattle.td_server.specs.Sessions.{WordsBySeeding as SeededWords, ServesSession as ServingOf, ServerState as StandOf}
use Rattle.td_server.specs.Sessions.{HandedSessions as HandedOf}
use Rattle.td_stream.specs.declared.end.End.{End}
use Rattle.td_stream.specs.Outside.{Outside}
use Rattle.td_session.specs.Sessions.{Serves}
use Rattle.td_trader.specs.declared.solo.Solo.{Solo}
use Rattle.td_trader.specs.Admitted.{AreAdmitted}
use Rattle.td_trader.specs.Following.{FollowsWritably}
use Rattle.td_trader.specs.PlainTraders.{PlainTrader}
use Rattle.td_trader.specs.Worlds.{View, view_of}
use Rattle.td_walk.specs.declared.trace.Address.{Address}

-- ---- what is seen of the traders

-- what another has seen, with nothing of one's own
abbrev pub bare : View → View
bare v = record v { own = []; own_marks = [] }

-- a trader as it is seen, with no room taken
abbrev pub as_trader : View → PlainTrader
as_trader v = record {
  name = v.name;
  opening = v.opening;
  bounds = v.bounds;
  history = v.history;
  marks = v.marks;
  reserved = false;
}

-- the second may be what the first has become, by changes that can be written
abbrev pub Continues : View → View → Type 0
Continues v u = FollowsWritably (as_trader v) (as_trader u)

-- What was seen of a trader before a session was taken in and what the session has seen of it lead to what is seen
-- then. What is own is own of both, and no place is in both.
pub record Joins (v session u : View) : Type 0 where
  pub before : Continues v u
  pub seen : Continues session u
  pub own : u.own ≡ merge itself v.own session.own
  pub apart : Rises itself u.own

-- The trader that was opened has become this one in the end, which goes on from what was seen last. Each change since
-- the opening is one's own.
pub record Closes (opened : PlainTrader) (v : View) (closed : PlainTrader) : Type 0 where
  pub since : FollowsWritably opened closed
  pub seen : Continues v (view_of closed [] [])
  pub places : (k : ℕ) → length opened.history ≤ k → k < length closed.history → In k v.own

-- ---- one session

-- A session over traders that others act on too: it began with this view of them and these random words, with no
-- iterator kept and no peer called, and ended with this view.
pub record ServesOver (others : List Accepted → Type 0) (later : Marks → Marks → Type 0)
    (home : Address) (first : List View) (words : ℕ → ℕ) (journal : List Entry) (end : End)
    (before after : Outside) (last : List View) : Type 0 where
  pub scene_after : Scene
  pub seen : scene_after.world ≡ last
  pub serves : Serves others later home (scene first ([], 1) (peers_seen [] 0) words)
      scene_after journal end before after

-- what is kept of a session: how it ended, and what was noted of its Requests
pub record SessionRecord : Type 0 where
  pub end : End
  pub journal : List Entry

-- ---- the kind of server

-- Its sessions share traders. Each is given the address where they are reached, whatever others do to the traders
-- meanwhile by changes that can be written, and in the end the traders are handed on.
abbrev pub trading : ServerKind
trading = record {
  World = List View;
  Given = Address;
  Outside = Outside;
  Kept = SessionRecord;
  Closed = Solo;
  Thing = ℕ;
  bare = map bare;
  Continues = AllZip Continues;
  Joins = Rows Joins;
  own = own_at;
  Serves = λ home first words before after kept last.
      ServesOver AreAdmitted Later home first words kept.journal kept.end before after last;
}

-- ---- its sessions

-- the random words that come after each seeding
abbrev pub WordsBySeeding : Type 0
WordsBySeeding = SeededWords

-- the sessions that were handed on, in order, and the traders, once they were
abbrev pub HandedSessions : Type 0 → Type 0
HandedSessions X = HandedOf trading X

-- these sessions were handed on, and no traders
abbrev pub HandsSome : {X : Type 0} → (content after : Option (HandedSessions X)) → Type 0
HandsSome {X} = HandsSomeOf {k = trading} {X = X}

-- a session that begins, and one that has ended
abbrev pub SessionStart : Type 0 → Type 0
SessionStart X = BegunOf trading X

abbrev pub SessionResult : Type 0 → Type 0
SessionResult X = EndedOf trading X

-- the session was served, whatever others did to the traders meanwhile by changes that can be written
abbrev pub ServesSession : {X : Type 0} → (X → Outside) → (X → WordsBySeeding) → SessionStart X
    → SessionResult X → Type 0
ServesSession {X} = ServingOf {k = trading} {X = X}

-- between two visitors
abbrev pub ServerState : Type 0 → Type 0
ServerState X = StandOf trading X

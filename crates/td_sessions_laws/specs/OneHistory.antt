-- The histories in the end are the work of the sessions: each entry since the opening is one accepted change of one
-- session.
use Rattle.std.specs.List.{flat_map}
use Rattle.std.specs.Prelude.{◌≡◌, ℕ, ◌≤◌, ◌<◌, true, List, [], ◌∷◌, ◌++◌, length, map, slice_get, Option, Some}
use Rattle.td_accept.specs.Doors.{Door}
use Rattle.td_cdr.specs.Marks.{In}
use Rattle.td_changes.specs.Histories.{StandsAt}
use Rattle.td_ops.specs.declared.call.Change.{Change}
use Rattle.td_ops.specs.declared.outcome.Outcome.TheVariants.{Done}
use Rattle.td_ops.specs.declared.outcome.Reply.{Reply}
use Rattle.td_register.specs.declared.history.Accepted.{Accepted}
use Rattle.td_servant.specs.declared.entry.Entry.{Entry}
use Rattle.td_stream.specs.Outside.{Outside}
use Rattle.td_sessions.specs.Sessions.{WordsBySeeding, ServesSession, HandedSessions}
use Rattle.td_server.specs.Whole.{Every}
use Rattle.td_sessions.specs.Whole.{ServesSessions, Visit}
use Rattle.td_trader.specs.Following.{Follows}
use Rattle.td_trader.specs.PlainTraders.{PlainTrader}
use Rattle.td_session_runs.specs.Journals.{Makes, is_accepted, places_in}
use Rattle.td_session_runs.specs.Turns.{ServedRequest, noted_of}
use Rattle.td_walk.specs.declared.trace.Address.{Address}

-- ---- the Requests of all sessions

-- a Request as it was served, and the number of the session that served it
pub record SessionRequest : Type 0 where
  pub session : ℕ
  pub request : ServedRequest

abbrev pub request_in : ℕ → ServedRequest → SessionRequest
request_in session request = record { session = session; request = request }

-- of each session those of its run, in order, in the order in which the sessions were handed on
abbrev pub all_requests : {X : Type 0} (outside_of : X → Outside) (seeded : X → WordsBySeeding)
    (visits : List (Visit X))
    → Every (λ (v : Visit X). ServesSession outside_of seeded v.begun v.ended) visits
    → List SessionRequest
all_requests outside_of seeded [] each = []
all_requests outside_of seeded (v ∷ vs) each =
    map (request_in v.begun.number) (noted_of each.0.serves.turns)
    ++ all_requests outside_of seeded vs each.1

-- ---- an entry

-- The Request is an accepted change at this place of trader k, and the entry of the history there is its change with
-- the reply that it was answered with.
pub record MakesEntry (history : List Accepted) (k place : ℕ) (n : ServedRequest) : Type 0 where
  pub accepted : is_accepted n ≡ true
  pub change : Change
  pub made : Makes n.judged n.entry k place change
  pub content : Reply
  pub outcome : n.outcome ≡ Done content
  pub stands : StandsAt history place change content

-- it is no accepted change at this place of trader k
abbrev pub MakesNone : (k place : ℕ) → SessionRequest → Type 0
MakesNone k place p = In place (places_in k p.request) → ⊥

-- one of the Requests has made the entry at this place of trader k, and no other is a change there
pub record IsMadeOnce (history : List Accepted) (k place : ℕ)
    (all : List SessionRequest) : Type 0 where
  pub before : List SessionRequest
  pub one : SessionRequest
  pub rest : List SessionRequest
  pub are : all ≡ before ++ one ∷ rest
  pub makes : MakesEntry history k place one.request
  pub alone : Every (MakesNone k place) (before ++ rest)

-- the Request has made an entry of one trader's history since the opening
pub record IsInHistory (opened closed : List PlainTrader) (p : SessionRequest) : Type 0 where
  pub k : ℕ
  pub place : ℕ
  pub first : PlainTrader
  pub last : PlainTrader
  pub is_opened : slice_get opened k ≡ Some first
  pub is_closed : slice_get closed k ≡ Some last
  pub since : length first.history ≤ place
  pub makes : MakesEntry last.history k place p.request

-- ---- the histories

-- What came to the history of trader k since the opening is legal, and each entry is an accepted change of exactly one
-- Request of exactly one session, at its point.
pub record IsOfSessions (k : ℕ) (opened closed : PlainTrader)
    (all : List SessionRequest) : Type 0 where
  pub follows : Follows opened closed
  pub entries : (place : ℕ) → length opened.history ≤ place → place < length closed.history
      → IsMadeOnce closed.history k place all

-- The traders as they were opened and as they are handed on, the entries of the journals that are handed on, each with
-- the number of its session, and the Requests of all sessions.
pub record AreOfSessions (opened closed : List PlainTrader) (journals : List (ℕ × Entry))
    (all : List SessionRequest) : Type 0 where
  pub count : length closed ≡ length opened
  -- the Requests are those that the journals have noted
  pub noted : journals ≡ map (λ (p : SessionRequest). (p.session, p.request.entry)) all
  pub each : (k : ℕ) (o c : PlainTrader) → slice_get opened k ≡ Some o → slice_get closed k ≡ Some c
      → IsOfSessions k o c all
  -- no accepted change is lost, or stands anywhere else
  pub kept : Every (λ (p : SessionRequest). is_accepted p.request ≡ true
      → IsInHistory opened closed p)
      all

-- what a session has noted, with its number
abbrev pub noted_by : {X : Type 0} → Visit X → List (ℕ × Entry)
noted_by v = map (λ (e : Entry). (v.begun.number, e)) v.ended.kept.journal

-- so it is where a server has served its last visitor
abbrev pub EntriesAreOfSessions : Type 0 → Type 0
EntriesAreOfSessions X =
    (outside_of : X → Outside) (seeded : X → WordsBySeeding) (home : Address) (seed : List ℕ)
    (traders : List PlainTrader) (door door_after : Option (Door X))
    (content content_after : Option (HandedSessions X))
    (s : ServesSessions outside_of seeded home seed traders door content door_after content_after)
    → AreOfSessions traders s.hands.solo.traders.items (flat_map noted_by s.whole.visits)
    (all_requests outside_of seeded s.whole.visits s.whole.each)

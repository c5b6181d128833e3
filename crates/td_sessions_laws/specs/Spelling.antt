-- The replies of all sessions of a server (CORBA, chapter on General Inter-ORB Protocol, "Reply Body").
use Rattle.std.specs.Prelude.{ℕ, List, [], ◌∷◌, Option}
use Rattle.std.specs.List.{AllByRecursion}
use Rattle.td_accept.specs.Doors.{Door}
use Rattle.td_sessions.specs.Sessions.{WordsBySeeding, ServesSession, HandedSessions}
use Rattle.td_server.specs.Whole.{Every}
use Rattle.td_sessions.specs.Whole.{ServesSessions, Visit}
use Rattle.td_stream.specs.Outside.{Outside}
use Rattle.td_trader.specs.PlainTraders.{PlainTrader}
use Rattle.td_trader_laws.specs.WritableTraders.{IsWritableTrader}
use Rattle.td_session_runs_laws.specs.Replies.{SpellsReplies}
use Rattle.td_walk.specs.declared.trace.Address.{Address}

-- of each session
abbrev pub EachSpells : {X : Type 0} (outside_of : X → Outside) (seeded : X → WordsBySeeding)
    (visits : List (Visit X))
    → Every (λ (v : Visit X). ServesSession outside_of seeded v.begun v.ended) visits → Type 0
EachSpells outside_of seeded [] each = Unit {0}
EachSpells outside_of seeded (v ∷ vs) each =
    SpellsReplies each.0.serves.turns × EachSpells outside_of seeded vs each.1

-- so it is where a server has served its last visitor, and the traders that it opened can be written
abbrev pub SessionsSpellReplies : Type 0 → Type 0
SessionsSpellReplies X =
    (outside_of : X → Outside) (seeded : X → WordsBySeeding) (home : Address) (seed : List ℕ)
    (traders : List PlainTrader) (door door_after : Option (Door X))
    (content content_after : Option (HandedSessions X))
    (s : ServesSessions outside_of seeded home seed traders door content door_after content_after)
    → AllByRecursion IsWritableTrader traders
    → EachSpells outside_of seeded s.whole.visits s.whole.each

-- All sessions of a server.
use Rattle.std.specs.Prelude.{◌≡◌, ℕ, List, [], Option, option_map}
use Rattle.td_accept.specs.Doors.{Door, bound_to}
use Rattle.td_naming.specs.Histories.{Past}
use Rattle.td_naming.specs.Views.{View}
use Rattle.td_server.specs.Sessions.{with_closed}
use Rattle.td_server.specs.Whole.{Visit as VisitOf, Whole as WholeOf}
use Rattle.td_shared_names.specs.Seeing.{view_of}
use Rattle.td_stream.specs.Outside.{Outside}
use Rattle.td_name_sessions.specs.Sessions.{Closes, WordsBySeeding, ServerState, HandedSessions, naming}

-- a session, from the coming of its visitor to its end
abbrev pub Visit : Type 0 → Type 0
Visit X = VisitOf naming X

-- All sessions of a server, from one stand to another: each visitor was served once, under its number, and handed on.
abbrev pub Whole : {X : Type 0} → (X → Outside) → (X → WordsBySeeding) → (s t : ServerState X)
    → Type 0
Whole {X} = WholeOf {k = naming} {X = X}

-- The contexts in the end are handed on: those that were opened, gone on from what was seen.
pub record HandsOn {X : Type 0} (opened : Past) (world : View)
    (content content_after : Option (HandedSessions X)) : Type 0 where
  pub contexts : Past
  pub closes : Closes opened world contexts
  pub handed_on : content_after ≡ option_map (with_closed {k = naming} contexts) content

-- Sessions were served from what was seen on to the end, and then the contexts handed on.
pub record ServesFrom {X : Type 0} (outside_of : X → Outside) (seeded : X → WordsBySeeding)
    (opened : Past)
    (world : View) (door : Option (Door X)) (content : Option (HandedSessions X))
    (door_after : Option (Door X))
    (content_after : Option (HandedSessions X)) : Type 0 where
  pub seed : List ℕ
  pub end : ServerState X
  pub whole : Whole outside_of seeded
      (record { given = tt; seed = seed; door = door; content = content; world = world }) end
  pub left : door_after ≡ end.door
  pub hands : HandsOn opened end.world end.content content_after

-- All sessions of a server over these contexts, from the binding of its acceptor to the contexts in the end.
abbrev pub ServesSessions : {X : Type 0} → (X → Outside) → (X → WordsBySeeding) → (opened : Past)
    → Option (Door X) → Option (HandedSessions X)
    → (door_after : Option (Door X)) → (content_after : Option (HandedSessions X)) → Type 0
ServesSessions outside_of seeded opened door content door_after content_after =
    ServesFrom outside_of seeded opened (view_of opened [])
    (option_map (bound_to opened.home.host opened.home.port) door) content door_after content_after

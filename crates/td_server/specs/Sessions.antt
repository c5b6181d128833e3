-- Sessions of a server beside each other, each over what it has seen of what they share.
use Rattle.std.specs.Prelude.{◌≡◌, ℕ, List, [], ◌∷◌, ◌++◌, Bool, Option, None, Some, option_map}
use Rattle.td_accept.specs.Doors.{VisitorComes, Door}
use Rattle.td_out.specs.Causes.{Rose}
use Rattle.td_out.specs.RandomWords.{StreamSeed}
use Rattle.td_server.specs.Kinds.{ServerKind}
use Rattle.td_workers.specs.JobSources.{RunsJobs}
use Rattle.td_workers.specs.declared.source.Stop.{Stop}
use Rattle.td_workers.specs.declared.source.Stop.TheVariants.{Failed, Memory}

-- ---- what is handed on

-- a session that has ended: its number, its visitor, whether its visitor was limited before, and what was kept of it
pub record HandedSession (k : ServerKind) (X : Type 0) : Type 0 where
  pub number : ℕ
  pub visitor : X
  pub limited : Bool
  pub kept : k.Kept

-- the sessions that were handed on, in order, and what they shared, once it was
pub record HandedSessions (k : ServerKind) (X : Type 0) : Type 0 where
  pub sessions : List (HandedSession k X)
  pub closed : Option k.Closed

abbrev pub with_session : {k : ServerKind} {X : Type 0} → HandedSession k X → HandedSessions k X
    → HandedSessions k X
with_session s t = record t { sessions = t.sessions ++ s ∷ [] }

abbrev pub with_sessions : {k : ServerKind} {X : Type 0} → List (HandedSession k X)
    → HandedSessions k X → HandedSessions k X
with_sessions ss t = record t { sessions = t.sessions ++ ss }

abbrev pub with_closed : {k : ServerKind} {X : Type 0} → k.Closed → HandedSessions k X
    → HandedSessions k X
with_closed c t = record t { closed = Some c }

-- these sessions were handed on, and nothing else
pub record HandsSome {k : ServerKind} {X : Type 0} (content after : Option (HandedSessions k X)) :
    Type 0 where
  pub sessions : List (HandedSession k X)
  pub handed_on : after ≡ option_map (with_sessions {k = k} sessions) content

-- ---- one session

-- what a connection tells: the bytes that its source has left and those that its sink was given, each where it tells,
-- and their counts of faults
pub record Connection : Type 0 where
  pub left : Option (List ℕ)
  pub reads : ℕ
  pub written : Option (List ℕ)
  pub writes : ℕ

abbrev pub connection : Option (List ℕ) → ℕ → Option (List ℕ) → ℕ → Connection
connection left reads written writes = record {
  left = left;
  reads = reads;
  written = written;
  writes = writes;
}

-- the random words that come after each seeding
abbrev pub WordsBySeeding : Type 0
WordsBySeeding = StreamSeed → ℕ → ℕ

-- a session that begins: its number, what it is given, the seed of its words, its visitor, and what is seen
pub record SessionStart (k : ServerKind) (X : Type 0) : Type 0 where
  pub number : ℕ
  pub given : k.Given
  pub seed : List ℕ
  pub visitor : X
  pub first : k.World

-- A session that has ended. The thread that takes the visitors in limited its visitor and served it, or another thread
-- served it without a limit.
pub record SessionResult (k : ServerKind) (X : Type 0) : Type 0 where
  pub visitor : X
  pub limited : Bool
  pub kept : k.Kept
  pub last : k.World

-- The session was served. Its words are those that come after a seeding with the seed and its number.
abbrev pub ServesSession : {k : ServerKind} {X : Type 0} → (X → k.Outside) → (X → WordsBySeeding)
    → SessionStart k X
    → SessionResult k X → Type 0
ServesSession {k} outside_of seeded b e =
    k.Serves b.given b.first (seeded b.visitor (record { key = b.seed; stream = b.number }))
    (outside_of b.visitor) (outside_of e.visitor) e.kept e.last

-- ---- the sessions of a server

-- Between two visitors: what each session is given, the seed, what the acceptor tells, what was handed on, and what is
-- seen by the sessions that have ended.
pub record ServerState (k : ServerKind) (X : Type 0) : Type 0 where
  pub given : k.Given
  pub seed : List ℕ
  pub door : Option (Door X)
  pub content : Option (HandedSessions k X)
  pub world : k.World

-- the next visitor has come; its session begins with what is seen then, and with nothing of its own
pub record ComesIn {k : ServerKind} {X : Type 0} (s : ServerState k X) (number : ℕ)
    (b : SessionStart k X)
    (t : ServerState k X) : Type 0 where
  pub came : VisitorComes (Some b.visitor) s.door t.door
  pub begins : b ≡ record {
    number = number;
    given = s.given;
    seed = s.seed;
    visitor = b.visitor;
    first = k.bare s.world;
  }
  pub rest : t ≡ record s { door = t.door }

-- no visitor is left
pub record ComesToAnEnd {k : ServerKind} {X : Type 0} (s t : ServerState k X) : Type 0 where
  pub came : VisitorComes None s.door t.door
  pub rest : t ≡ record s { door = t.door }

-- a session that has ended is handed on, under its number, and what it has seen and done is taken in
pub record GoesOut {k : ServerKind} {X : Type 0} (s : ServerState k X) (number : ℕ)
    (e : SessionResult k X)
    (t : ServerState k X) : Type 0 where
  pub handed : t.content ≡ option_map (with_session {k = k}
      (record { number = number; visitor = e.visitor; limited = e.limited; kept = e.kept }))
      s.content
  pub joined : k.Joins s.world e.last t.world
  pub rest : t ≡ record s { content = t.content; world = t.world }

abbrev pub was_limited : {k : ServerKind} {X : Type 0} → SessionResult k X → Bool
was_limited e = e.limited

-- from one stand on to the end: so many visitors have come, and these sessions go on
abbrev pub ServesOn : {k : ServerKind} {X : Type 0} → (X → k.Outside) → (X → WordsBySeeding) → Bool
    → ServerState k X
    → ℕ → List (ℕ × SessionStart k X) → ServerState k X → Type 0
ServesOn {k} outside_of seeded more s n out t =
    RunsJobs (ComesIn {k = k}) (ComesToAnEnd {k = k}) (ServesSession {k = k} outside_of seeded)
    (was_limited {k = k}) (GoesOut {k = k}) more s n out t

-- why a server stops before its last visitor: its acceptor failed, or memory ran out
abbrev pub StopsSo : Stop → (before now : ℕ) → Type 0
StopsSo Failed before now = Rose before now
StopsSo Memory before now = Unit {0}

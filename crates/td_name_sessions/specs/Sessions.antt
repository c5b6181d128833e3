-- Sessions of a server beside each other, each over what it has seen of the naming contexts.
use Rattle.std.specs.Prelude.{◌≡◌, ℕ, ◌≤◌, ◌<◌, List, [], Option}
use Rattle.td_cdr.specs.Marks.{In}
use Rattle.td_cell.specs.Lists.{Rises, itself, merge}
use Rattle.td_name_session.specs.Completeness.{Completes}
use Rattle.td_name_session.specs.Scenes.{Scene, scene}
use Rattle.td_name_session.specs.Sessions.{Serves}
use Rattle.td_naming.specs.Histories.{Past, past}
use Rattle.td_naming.specs.Views.{View}
use Rattle.td_naming.specs.declared.history.NameChange.{NameChange}
use Rattle.td_server.specs.Kinds.{ServerKind}
use Rattle.td_server.specs.Sessions.{SessionStart as BegunOf, SessionResult as EndedOf, HandsSome as HandsSomeOf}
use Rattle.td_server.specs.Sessions.{WordsBySeeding as SeededWords, ServesSession as ServingOf, ServerState as StandOf}
use Rattle.td_server.specs.Sessions.{HandedSessions as HandedOf}
use Rattle.td_shared_names.specs.Acting.{ExtendsPast, size_of}
use Rattle.td_shared_names.specs.Seeing.{any_changes}
use Rattle.td_stream.specs.Outside.{Outside}
use Rattle.td_stream.specs.declared.end.End.{End}

-- ---- what is seen of the contexts

-- what another has seen, with nothing of one's own
abbrev pub bare : View → View
bare v = record v { own = [] }

-- where they are reached, and their history
abbrev pub past_in : View → Past
past_in v = past v.home v.history

-- the second may be what the first has become
abbrev pub Continues : View → View → Type 0
Continues v u = ExtendsPast (past_in v) (past_in u)

-- What was seen of the contexts before a session was taken in and what the session has seen of them lead to what is
-- seen then. What is own is own of both, and no place is in both.
pub record Joins (v session u : View) : Type 0 where
  pub before : Continues v u
  pub seen : Continues session u
  pub own : u.own ≡ merge itself v.own session.own
  pub apart : Rises itself u.own

-- The contexts that were opened have become these in the end, which go on from what was seen last. Each change since
-- the opening is one's own.
pub record Closes (opened : Past) (v : View) (closed : Past) : Type 0 where
  pub since : ExtendsPast opened closed
  pub seen : ExtendsPast (past_in v) closed
  pub places : (k : ℕ) → size_of opened ≤ k → k < size_of closed → In k v.own

-- ---- one session

-- A session over contexts that others call too: it began with this view of them, with no iterator kept, and ended with
-- that one. Of streams of whole messages it loses none.
pub record ServesOver (others : List NameChange → Type 0) (first : View) (journal : List ℕ)
    (end : End) (before after : Outside) (last : View) : Type 0 where
  pub scene_after : Scene
  pub seen : scene_after.names ≡ last
  pub serves : Serves others (scene first ([], 1)) scene_after journal end before after
  pub complete : Completes others (scene first ([], 1)) scene_after end before after

-- what is kept of a session: how it ended, and the points that were noted of its Requests
pub record SessionRecord : Type 0 where
  pub end : End
  pub journal : List ℕ

-- ---- the kind of server

-- Its sessions share naming contexts, to which others may make any changes meanwhile. In the end the contexts are
-- handed on. No session draws random words.
abbrev pub naming : ServerKind
naming = record {
  World = View;
  Given = Unit {0};
  Outside = Outside;
  Kept = SessionRecord;
  Closed = Past;
  Thing = Unit {0};
  bare = bare;
  Continues = Continues;
  Joins = Joins;
  own = λ v contexts. v.own;
  Serves = λ given first words before after kept last.
      ServesOver any_changes first kept.journal kept.end before after last;
}

-- ---- its sessions

-- the random words that come after each seeding
abbrev pub WordsBySeeding : Type 0
WordsBySeeding = SeededWords

-- the sessions that were handed on, in order, and the contexts, once they were
abbrev pub HandedSessions : Type 0 → Type 0
HandedSessions X = HandedOf naming X

-- these sessions were handed on, and no contexts
abbrev pub HandsSome : {X : Type 0} → (content after : Option (HandedSessions X)) → Type 0
HandsSome {X} = HandsSomeOf {k = naming} {X = X}

-- a session that begins, and one that has ended
abbrev pub SessionStart : Type 0 → Type 0
SessionStart X = BegunOf naming X

abbrev pub SessionResult : Type 0 → Type 0
SessionResult X = EndedOf naming X

-- the session was served, whatever others did to the contexts meanwhile
abbrev pub ServesSession : {X : Type 0} → (X → Outside) → (X → WordsBySeeding) → SessionStart X
    → SessionResult X → Type 0
ServesSession {X} = ServingOf {k = naming} {X = X}

-- between two visitors
abbrev pub ServerState : Type 0 → Type 0
ServerState X = StandOf naming X

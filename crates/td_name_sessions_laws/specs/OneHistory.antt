-- The history in the end is the work of the sessions: each change since the opening is one accepted change of one
-- session.
use Rattle.std.specs.Prelude.{◌≡◌, ℕ, ◌+◌, ◌≤◌, ◌<◌, true, cond, nat_eq, List, [], ◌∷◌, ◌++◌, Option, Some, slice_get}
use Rattle.td_accept.specs.Doors.{Door}
use Rattle.td_cdr.specs.Marks.{In}
use Rattle.td_name_ops.specs.declared.call.NameCall.TheVariants as call
use Rattle.td_name_session.specs.Keys.{context_in}
use Rattle.td_name_session.specs.Laws.{places_of}
use Rattle.td_name_session.specs.Turns.{ServedRequest, Turn}
use Rattle.td_name_session.specs.declared.judging.Judged.TheVariants.{Call}
use Rattle.td_name_session.specs.declared.keys.NameKey.{NameKey}
use Rattle.td_name_sessions.specs.Sessions.{WordsBySeeding, ServesSession, HandedSessions}
use Rattle.td_name_sessions.specs.Whole.{ServesFrom, Visit}
use Rattle.td_names.specs.declared.act.NameAct.{NameAct}
use Rattle.td_naming.specs.Histories.{Past}
use Rattle.td_naming.specs.declared.history.NameChange.{NameChange}
use Rattle.td_server.specs.Whole.{Every}
use Rattle.td_shared_names.specs.Acting.{ExtendsPast, size_of}
use Rattle.td_shared_names.specs.Seeing.{view_of}
use Rattle.td_stream.specs.Outside.{Outside}

-- how often a number stands in a list
abbrev pub times : ℕ → List ℕ → ℕ
times n [] = 0
times n (x ∷ xs) = cond (nat_eq x n) (times n xs + 1) (times n xs)

-- ---- the Requests of a session

-- the Request is a call that was accepted, and this call stands in the history at the point that was noted of it
pub record MakesChange (history : List NameChange) (t : Turn) : Type 0 where
  pub point : ℕ
  pub noted : t.point ≡ Some point
  pub change : NameChange
  pub stands : slice_get history point ≡ Some change
  pub key : NameKey
  pub act : NameAct
  pub request : ServedRequest
  pub is : t.request ≡ Some request
  pub judged : request.judged ≡ Call key (call.Act act)
  pub same : (change.context ≡ context_in key) × (change.act ≡ act)

-- so it is of each accepted change of the session
abbrev pub MakesAll : List NameChange → List Turn → Type 0
MakesAll history turns =
    (before rest : List Turn) (t : Turn) (n : ServedRequest) → turns ≡ before ++ t ∷ rest
    → t.request ≡ Some n → n.accepted ≡ true → MakesChange history t

-- ---- those of all sessions

module _ {X : Type 0} (outside_of : X → Outside) (seeded : X → WordsBySeeding) where
  abbrev pub AreServed : List (Visit X) → Type 0
  AreServed visits = Every (λ (v : Visit X). ServesSession outside_of seeded v.begun v.ended) visits

  -- the places of the accepted changes, of each session in order
  abbrev pub all_places : (visits : List (Visit X)) → AreServed visits → List ℕ
  all_places [] each = []
  all_places (v ∷ vs) each = places_of each.0.serves.turns ++ all_places vs each.1

  abbrev pub AllMake : List NameChange → (visits : List (Visit X)) → AreServed visits → Type 0
  AllMake history [] each = Unit {0}
  AllMake history (v ∷ vs) each = MakesAll history each.0.serves.turns × AllMake history vs each.1

-- The contexts as they were opened and as they are handed on, and all sessions.
pub record AreOfSessions {X : Type 0} (outside_of : X → Outside) (seeded : X → WordsBySeeding)
    (opened closed : Past) (visits : List (Visit X))
    (each : AreServed outside_of seeded visits) : Type 0 where
  -- what came to the history is legal
  pub goes_on : ExtendsPast opened closed
  -- each change since the opening is an accepted change of one Request of one session
  pub once : (place : ℕ) → size_of opened ≤ place → place < size_of closed
      → times place (all_places outside_of seeded visits each) ≡ 1
  -- no accepted change is lost, or stands anywhere else
  pub since : (place : ℕ) → In place (all_places outside_of seeded visits each)
      → size_of opened ≤ place
  pub made : AllMake outside_of seeded closed.history visits each

-- so it is where a server has served its last visitor
abbrev pub ChangesAreOfSessions : Type 0 → Type 0
ChangesAreOfSessions X =
    (outside_of : X → Outside) (seeded : X → WordsBySeeding) (opened : Past)
    (door door_after : Option (Door X)) (content content_after : Option (HandedSessions X))
    (s : ServesFrom outside_of seeded opened (view_of opened []) door content door_after
    content_after)
    → AreOfSessions outside_of seeded opened s.hands.contexts s.whole.visits s.whole.each

-- The history of the desk that all sessions of a server share.
use Rattle.std.specs.Prelude.{◌⊎◌, ℕ, List, [], ◌∷◌, Option}
use Rattle.td_accept.specs.Doors.{Door}
use Rattle.td_cdr.specs.Marks.{In}
use Rattle.td_desk.specs.Acting.{ExtendsHistory}
use Rattle.td_desk.specs.Giving.{places_through}
use Rattle.td_desk.specs.declared.event.Event.{Event}
use Rattle.td_iter.specs.declared.desk.DeskEntry.{DeskEntry}
use Rattle.td_iter.specs.declared.item.Item.{Item}
use Rattle.td_server.specs.Whole.{Every}
use Rattle.td_shared_sessions.specs.Sessions.{WordsBySeeding, ServerState, HandedSessions}
use Rattle.td_shared_sessions.specs.Whole.{ServesFrom, Visit}
use Rattle.td_stream.specs.Outside.{Outside}
use Rattle.td_trader.specs.PlainTraders.{PlainTrader}

module _ {X : Type 0} where
  -- what a session has seen of the desk when it ends, and the places of its own calls in that
  abbrev pub seen_by : Visit X → List Event
  seen_by v = v.ended.last.desk.history

  abbrev pub calls_of : Visit X → List ℕ
  calls_of v = v.ended.last.desk.own

  -- ---- one history

  -- one of the sessions has made the call at this place
  abbrev pub HasCalled : ℕ → List (Visit X) → Type 0
  HasCalled place [] = ⊥
  HasCalled place (v ∷ vs) = In place (calls_of v) ⊎ HasCalled place vs

  -- no two of them have made one call
  abbrev pub CallApart : List (Visit X) → Type 0
  CallApart [] = Unit {0}
  CallApart (v ∷ vs) = ((place : ℕ) → In place (calls_of v) → HasCalled place vs → ⊥) × CallApart vs

  -- what each session has seen of the desk is a front of this history, and no call of it is that of two
  pub record HaveSeen (h : List Event) (visits : List (Visit X)) : Type 0 where
    pub fronts : Every (λ (v : Visit X). ExtendsHistory (seen_by v) h) visits
    pub apart : CallApart visits

  -- ---- what it gives

  -- the item at this place of an iterator's list was given by a call of one of the sessions
  abbrev pub IsGivenBySession : List Event → DeskEntry Item → ℕ → List (Visit X) → Type 0
  IsGivenBySession h e k [] = ⊥
  IsGivenBySession h e k (v ∷ vs) = In k (places_through h e (calls_of v))
      ⊎ IsGivenBySession h e k vs

  -- no item of its list was given by calls of two of them
  abbrev pub GivenApart : List Event → DeskEntry Item → List (Visit X) → Type 0
  GivenApart h e [] = Unit {0}
  GivenApart h e (v ∷ vs) =
      ((k : ℕ) → In k (places_through h e (calls_of v)) → IsGivenBySession h e k vs → ⊥)
      × GivenApart h e vs

-- ---- so it is where a server has served its last visitor

abbrev pub ShareOneHistory : Type 0 → Type 0
ShareOneHistory X =
    (outside_of : X → Outside) (seeded : X → WordsBySeeding) (opened : List PlainTrader)
    (start : ServerState X)
    (door_after : Option (Door X)) (content_after : Option (HandedSessions X))
    (s : ServesFrom outside_of seeded opened start door_after content_after)
    → HaveSeen s.end.world.desk.history s.whole.visits

abbrev pub NoItemGoesToTwo : Type 0 → Type 0
NoItemGoesToTwo X =
    (outside_of : X → Outside) (seeded : X → WordsBySeeding) (opened : List PlainTrader)
    (start : ServerState X)
    (door_after : Option (Door X)) (content_after : Option (HandedSessions X))
    (s : ServesFrom outside_of seeded opened start door_after content_after) (e : DeskEntry Item)
    → GivenApart s.end.world.desk.history e s.whole.visits

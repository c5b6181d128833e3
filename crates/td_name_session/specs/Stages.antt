-- How a session stands between two messages, and what turns make of it.
use Rattle.std.specs.Prelude.{◌≡◌, ℕ, Bool, List, [], ◌∷◌, ◌++◌, Option}
use Rattle.td_cdr.specs.Place.{At}
use Rattle.td_cdr.specs.declared.order.Order.{Order}
use Rattle.td_naming.specs.Views.{View}
use Rattle.td_naming.specs.declared.history.NameChange.{NameChange}
use Rattle.td_name_session.specs.Keys.{key_of}
use Rattle.td_name_session.specs.ReplyBytes.{locate_reply}
use Rattle.td_name_session.specs.Scenes.{IteratorList, Scene, scene}
use Rattle.td_name_session.specs.Turns.{FindsKey, ServedRequest, Run, ServesHead, Turn, journal_of, seen_in}
use Rattle.td_name_session.specs.declared.reply_to.ReplyTo.{ReplyTo}

-- what a session keeps: the iterators of the connection, the points that were noted, and the reply to the last message
pub record Room : Type 0 where
  pub desk : IteratorList
  pub journal : List ℕ
  pub replies : List ℕ

-- no iterator is kept, the next one's number is 1, and nothing is noted
pub record IsNew (room : Room) : Type 0 where
  pub desk : room.desk ≡ ([], 1)
  pub journal : room.journal ≡ []

-- the scene, and what was noted so far
pub record Stage : Type 0 where
  pub scene : Scene
  pub journal : List ℕ

abbrev pub stage : Scene → List ℕ → Stage
stage scene journal = record { scene = scene; journal = journal }

abbrev pub stage_in : View → Room → Stage
stage_in v room = stage (scene v room.desk) room.journal

abbrev pub turn_of : (message : List ℕ) → Option ServedRequest → Option ℕ → (reply : List ℕ) → Scene
    → Turn
turn_of message noted point reply after = record {
  message = message;
  request = noted;
  point = point;
  reply = reply;
  after = after;
}

module _ (others : List NameChange → Type 0) where
  -- These turns lead from one stage to the other: the journal grew by what is noted of them.
  pub record TurnsLead (turns : List Turn) (s u : Stage) : Type 0 where
    pub run : Run others s.scene turns u.scene
    pub noted : u.journal ≡ s.journal ++ journal_of turns

  -- the Request is served, and its point is noted behind the journal
  pub record NotesHead (to : ReplyTo) (key operation : List ℕ) (body : At) (s : Stage)
      (reply : List ℕ) (u : Stage) : Type 0 where
    pub point : ℕ
    pub serves : ServesHead others to key operation body s.scene reply point u.scene
    pub journal : u.journal ≡ s.journal ++ point ∷ []

  -- A LocateRequest is answered, and how many changes are seen then is noted behind the journal.
  pub record NotesLocate (order : Order) (minor id : ℕ) (key : List ℕ) (s : Stage) (reply : List ℕ)
      (u : Stage) : Type 0 where
    pub live : Bool
    pub finds : FindsKey others s.scene.names s.scene.desk (key_of key) live u.scene.names
    pub content : reply ≡ locate_reply order minor id live
    pub desk : u.scene.desk ≡ s.scene.desk
    pub journal : u.journal ≡ s.journal ++ seen_in u.scene ∷ []

  -- the message is served with this reply
  pub record ServesMessage (s : Stage) (message reply : List ℕ) (u : Stage) : Type 0 where
    pub noted : Option ServedRequest
    pub point : Option ℕ
    pub leads : TurnsLead (turn_of message noted point reply u.scene ∷ []) s u

-- nothing was done
abbrev pub Stays : Stage → Stage → Type 0
Stays s u = u ≡ s

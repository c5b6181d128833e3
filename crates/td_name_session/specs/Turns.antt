-- What a session makes of its messages, one after the other (CORBA, chapter on General Inter-ORB Protocol, "GIOP
-- Messages"): a Request is served, a LocateRequest is told whether its key is that of a live object, and a
-- CancelRequest is ignored.
use Rattle.std.specs.Prelude.{◌≡◌, ℕ, ◌-◌, Bool, false, cond, List, [], ◌∷◌, ◌++◌, length, map, Option, None, Some}
use Rattle.std.specs.Prelude.{Ok}
use Rattle.td_cdr.specs.Place.{At}
use Rattle.td_cdr.specs.Writing.{Draft}
use Rattle.td_giop.specs.Heads.{Request, request_at, locate_at, cancel_at}
use Rattle.td_giop.specs.declared.message_type.TheConstants.{REQUEST, CANCEL_REQUEST, LOCATE_REQUEST}
use Rattle.td_name_ops.specs.declared.outcome.NameOutcome.{NameOutcome}
use Rattle.td_naming.specs.Views.{View}
use Rattle.td_naming.specs.declared.history.NameChange.{NameChange}
use Rattle.td_stream.specs.Exchanges.{MessageExchange, exchange}
use Rattle.td_stream.specs.Messages.{behind, kind_of, minor_of, order_of}
use Rattle.td_name_session.specs.Judging.{JudgesRequest}
use Rattle.td_name_session.specs.Keys.{key_of}
use Rattle.td_name_session.specs.ReplyBytes.{BeginsReply, locate_reply, reply_for, reply_to}
use Rattle.td_name_session.specs.Requests.{AnswersRequest}
use Rattle.td_name_session.specs.Scenes.{FindsObject, IteratorList, Scene, scene}
use Rattle.td_name_session.specs.declared.judging.Judged.{Judged}
use Rattle.td_name_session.specs.declared.keys.NameKey.{NameKey}
use Rattle.td_name_session.specs.declared.reply_to.ReplyTo.{ReplyTo}

-- a Request as it was served: what it asks for, its outcome, and whether it was an accepted change
pub record ServedRequest : Type 0 where
  pub judged : Judged
  pub outcome : NameOutcome
  pub accepted : Bool

-- a served message: what it asked for where it is a Request, the point that is noted, the bytes that it is answered
-- with, and how everything stands then
pub record Turn : Type 0 where
  pub message : List ℕ
  pub request : Option ServedRequest
  pub point : Option ℕ
  pub reply : List ℕ
  pub after : Scene

-- how many changes were accepted before an act, of which so many are seen behind it
abbrev pub point_of : ℕ → (accepted : Bool) → ℕ
point_of seen accepted = cond accepted (seen - 1) seen

-- how many changes are seen
abbrev pub seen_in : Scene → ℕ
seen_in s = length s.names.history

module _ (others : List NameChange → Type 0) where
  abbrev pub FindsKey : View → IteratorList → Option NameKey → Bool → View → Type 0
  FindsKey v d None live u = (live ≡ false) × (u ≡ v)
  FindsKey v d (Some key) live u = FindsObject others v d key live u

  -- the live object of a key, if there is one
  pub record FindsLive (v : View) (d : IteratorList) (key : Option NameKey) (found : Option NameKey)
      (u : View) : Type 0 where
    pub live : Bool
    pub finds : FindsKey v d key live u
    pub is : found ≡ cond live key None

  -- The reply is OBJECT_HERE for the key of a live object, else UNKNOWN_OBJECT. Nothing was done but by others.
  pub record ServesLocate (s : Scene) (t : Turn) : Type 0 where
    pub id : ℕ
    pub key : List ℕ
    pub kind : kind_of t.message ≡ LOCATE_REQUEST
    pub read : locate_at (behind t.message) ≡ Ok (id, key)
    pub request : t.request ≡ None
    pub live : Bool
    pub finds : FindsKey s.names s.desk (key_of key) live t.after.names
    pub content : t.reply ≡ locate_reply (order_of t.message) (minor_of t.message) id live
    pub point : t.point ≡ Some (seen_in t.after)
    pub desk : t.after.desk ≡ s.desk

  -- nothing is answered, nothing changes, and nothing is noted
  pub record ServesCancel (s : Scene) (t : Turn) : Type 0 where
    pub id : ℕ
    pub kind : kind_of t.message ≡ CANCEL_REQUEST
    pub read : cancel_at (behind t.message) ≡ Ok id
    pub request : t.request ≡ None
    pub point : t.point ≡ None
    pub content : t.reply ≡ []
    pub kept : t.after ≡ s

  -- A Request with this key, operation and body is judged at what is seen once its object was looked for, and served as
  -- it asks from there on, with this reply; this point is noted of it.
  pub record ServesHead (to : ReplyTo) (key operation : List ℕ) (body : At) (s : Scene)
      (reply : List ℕ) (point : ℕ) (u : Scene) : Type 0 where
    pub noted : ServedRequest
    pub looked : View
    pub asks : JudgesRequest others s.names s.desk key operation body noted.judged looked
    pub draft : Draft
    pub begun : BeginsReply to draft
    pub answers : AnswersRequest others noted.judged draft (scene looked s.desk)
        noted.outcome noted.accepted u
    pub content : reply ≡ reply_for to noted.outcome
    pub point_is : point ≡ point_of (seen_in u) noted.accepted

  pub record ServesRequest (s : Scene) (t : Turn) : Type 0 where
    pub head : Request
    pub body : At
    pub kind : kind_of t.message ≡ REQUEST
    pub read : request_at (minor_of t.message) (behind t.message) ≡ Ok (head, body)
    pub point : ℕ
    pub serves : ServesHead (reply_to (order_of t.message) (minor_of t.message) head)
        head.key head.operation body s t.reply point t.after
    pub request : t.request ≡ Some serves.noted
    pub point_is : t.point ≡ Some point

  -- the message is served
  pub data IsTurn (s : Scene) (t : Turn) : Type 0 where
    request : ServesRequest s t → IsTurn s t
    locate : ServesLocate s t → IsTurn s t
    cancel : ServesCancel s t → IsTurn s t

  -- each message is served where the one before has left everything
  abbrev pub Run : Scene → List Turn → Scene → Type 0
  Run s [] u = u ≡ s
  Run s (t ∷ ts) u = IsTurn s t × Run t.after ts u

-- ---- what is told of a run

-- a message that was served, and what it was answered with
abbrev pub exchange_of : Turn → MessageExchange
exchange_of turn = exchange turn.message turn.reply

abbrev pub exchanges_of : List Turn → List MessageExchange
exchanges_of turns = map exchange_of turns

abbrev pub point_in : Option ℕ → List ℕ
point_in None = []
point_in (Some n) = n ∷ []

-- the points that are noted, in order
abbrev pub journal_of : List Turn → List ℕ
journal_of [] = []
journal_of (t ∷ ts) = point_in t.point ++ journal_of ts

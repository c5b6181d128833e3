-- What a session makes of its messages, one after the other (CORBA, chapter on General Inter-ORB Protocol, "GIOP
-- Messages"): a Request is served, a LocateRequest is told whether its key is that of a live object, and a
-- CancelRequest is ignored.
use Rattle.std.specs.Prelude.{◌≡◌, ◌<◌, ◌^◌, ℕ, Bool, List, [], ◌∷◌, ◌++◌, length, map, Option, None, Some, Ok}
use Rattle.std.specs.Prelude.{is_some}
use Rattle.td_cdr.specs.Lawful.{AreOctets}
use Rattle.td_cdr.specs.Marks.{Marks}
use Rattle.td_cdr.specs.Place.{At}
use Rattle.td_giop.specs.Heads.{Request, request_at, locate_at, cancel_at}
use Rattle.td_giop.specs.declared.message_type.TheConstants.{REQUEST, CANCEL_REQUEST, LOCATE_REQUEST}
use Rattle.td_iter.specs.Desks.{Live}
use Rattle.td_lookup.specs.Scenes.{Scene}
use Rattle.td_ops.specs.declared.outcome.Outcome.{Outcome}
use Rattle.td_register.specs.declared.history.Accepted.{Accepted}
use Rattle.td_servant.specs.Classes.{request_class}
use Rattle.td_servant.specs.Judging.{judge_request}
use Rattle.td_servant.specs.Objects.{object_at}
use Rattle.td_servant.specs.declared.entry.Entry.{Entry}
use Rattle.td_servant.specs.declared.judging.Judged.{Judged}
use Rattle.td_dispatch.specs.ReplyBytes.{locate_reply, reply_to}
use Rattle.td_dispatch.specs.Requests.{NotesNoCall, RepliesTo}
use Rattle.td_stream.specs.Exchanges.{MessageExchange, exchange}
use Rattle.td_stream.specs.Messages.{behind, kind_of, minor_of, order_of}
use Rattle.td_trader.specs.Worlds.{View}
use Rattle.td_walk.specs.declared.trace.Address.{Address}

-- a Request as it was served: what it asks for, its outcome, and what is noted of it
pub record ServedRequest : Type 0 where
  pub judged : Judged
  pub outcome : Outcome
  pub entry : Entry

-- a served message: what is noted of a Request, the bytes that it is answered with, and how everything stands then
pub record Turn : Type 0 where
  pub message : List ℕ
  pub request : Option ServedRequest
  pub reply : List ℕ
  pub after : Scene

-- a key names a live object
abbrev pub is_live : List View → Live → (key : List ℕ) → Bool
is_live w d key = is_some (object_at w d key)

-- The reply is OBJECT_HERE for the key of a live object, else UNKNOWN_OBJECT. Nothing changes, and nothing is noted.
pub record ServesLocate (s : Scene) (t : Turn) : Type 0 where
  pub id : ℕ
  pub key : List ℕ
  pub kind : kind_of t.message ≡ LOCATE_REQUEST
  pub read : locate_at (behind t.message) ≡ Ok (id, key)
  pub request : t.request ≡ None
  pub content : t.reply ≡ locate_reply (order_of t.message)
      (minor_of t.message) id (is_live s.world s.desk key)
  pub kept : t.after ≡ s

-- nothing is answered, nothing changes, and nothing is noted
pub record ServesCancel (s : Scene) (t : Turn) : Type 0 where
  pub id : ℕ
  pub kind : kind_of t.message ≡ CANCEL_REQUEST
  pub read : cancel_at (behind t.message) ≡ Ok id
  pub request : t.request ≡ None
  pub content : t.reply ≡ []
  pub kept : t.after ≡ s

-- A Request is judged at how everything stands, and served as it asks. Its body is octets, and its reply has fewer than
-- 2^32 of them.
pub record ServesRequest (others : List Accepted → Type 0) (later : Marks → Marks → Type 0)
    (home : Address) (s : Scene) (t : Turn) : Type 0 where
  pub head : Request
  pub body : At
  pub kind : kind_of t.message ≡ REQUEST
  pub read : request_at (minor_of t.message) (behind t.message) ≡ Ok (head, body)
  pub noted : ServedRequest
  pub request : t.request ≡ Some noted
  pub asks : noted.judged ≡ judge_request s.world s.desk head.key head.operation body
  pub served : RepliesTo others later home (reply_to (order_of t.message) (minor_of t.message) head)
      noted.judged s noted.outcome noted.entry t.reply t.after
  pub no_call : NotesNoCall (request_class s.world s.desk head.key head.operation)
      noted.judged noted.entry
  pub octets : AreOctets body.rest
  pub short : length t.reply < 2 ^ 32

-- the message is served
pub data IsTurn (others : List Accepted → Type 0) (later : Marks → Marks → Type 0) (home : Address)
    (s : Scene) (t : Turn) : Type 0 where
  request : ServesRequest others later home s t → IsTurn others later home s t
  locate : ServesLocate s t → IsTurn others later home s t
  cancel : ServesCancel s t → IsTurn others later home s t

-- each message is served where the one before has left everything
abbrev pub Run : (others : List Accepted → Type 0) → (later : Marks → Marks → Type 0)
    → (home : Address) → Scene → List Turn → Scene → Type 0
Run others later home s [] u = u ≡ s
Run others later home s (t ∷ ts) u = IsTurn others later home s t
    × Run others later home t.after ts u

-- ---- what is told of a run

-- a message that was served, and what it was answered with
abbrev pub exchange_of : Turn → MessageExchange
exchange_of turn = exchange turn.message turn.reply

abbrev pub exchanges_of : List Turn → List MessageExchange
exchanges_of turns = map exchange_of turns

abbrev pub noted_in : Option ServedRequest → List ServedRequest
noted_in None = []
noted_in (Some n) = n ∷ []

-- the Requests, as they were served
abbrev pub noted_of : List Turn → List ServedRequest
noted_of [] = []
noted_of (t ∷ ts) = noted_in t.request ++ noted_of ts

-- what is noted of them, in order
abbrev pub journal_of : List Turn → List Entry
journal_of turns = map (λ n. n.entry) (noted_of turns)

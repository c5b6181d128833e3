-- A servant that sends each Request's body back (CORBA, chapter on General Inter-ORB Protocol, "GIOP Messages").
use Rattle.std.specs.Prelude.{◌≡◌, ℕ, if◌then◌else◌, List, [], ◌++◌, All, Ok}
use Rattle.td_cdr.specs.Place.{At}
use Rattle.td_cdr.specs.declared.order.Order.{Order}
use Rattle.td_giop.specs.Heads.{Request, request_at, locate_at, cancel_at}
use Rattle.td_giop.specs.Written.{locate_reply_written, reply_start, seal_size}
use Rattle.td_giop.specs.declared.message_type.TheConstants.{REQUEST, CANCEL_REQUEST, LOCATE_REQUEST}
use Rattle.td_stream.specs.Exchanges.{MessageExchange}
use Rattle.td_stream.specs.Messages.{behind, kind_of, minor_of, order_of}
use Rattle.td_stream.specs.Outside.{Outside}
use Rattle.td_stream.specs.Streams.{StreamFinishes}
use Rattle.td_stream.specs.declared.end.End.{End}

-- a Reply of the Request's version with status NO_EXCEPTION (0), with the Request's parameters behind it
abbrev pub echo_of : Order → (minor : ℕ) → Request → At → List ℕ
echo_of order minor head body = seal_size order (reply_start order minor head.id 0 ++ body.rest)

-- a Request that expects a reply is answered with its parameters, any other with nothing
pub record EchoesRequest (message reply : List ℕ) : Type 0 where
  pub head : Request
  pub body : At
  pub kind : kind_of message ≡ REQUEST
  pub read : request_at (minor_of message) (behind message) ≡ Ok (head, body)
  pub content : reply ≡ (if head.answered then echo_of (order_of message)
      (minor_of message) head body else [])

-- each key is that of an object: OBJECT_HERE (1)
pub record EchoesLocate (message reply : List ℕ) : Type 0 where
  pub id : ℕ
  pub key : List ℕ
  pub kind : kind_of message ≡ LOCATE_REQUEST
  pub read : locate_at (behind message) ≡ Ok (id, key)
  pub content : reply
      ≡ seal_size (order_of message) (locate_reply_written (order_of message) (minor_of message) id
      1)

pub record EchoesCancel (message reply : List ℕ) : Type 0 where
  pub id : ℕ
  pub kind : kind_of message ≡ CANCEL_REQUEST
  pub read : cancel_at (behind message) ≡ Ok id
  pub content : reply ≡ []

-- what a message is answered with
pub data Echoes (message reply : List ℕ) : Type 0 where
  request : EchoesRequest message reply → Echoes message reply
  locate : EchoesLocate message reply → Echoes message reply
  cancel : EchoesCancel message reply → Echoes message reply

-- wherever the servant stands, since it keeps nothing but the room of its reply
abbrev pub EchoesSo : Unit {0} → List ℕ → List ℕ → Unit {0} → Type 0
EchoesSo s message reply t = Echoes message reply

abbrev pub Any : Unit {0} → Unit {0} → Type 0
Any s t = Unit {0}

-- a stream, whole: each message is echoed, and it ends so
pub record EchoesAll (end : End) (before after : Outside) : Type 0 where
  pub exchanges : List MessageExchange
  pub each : All (λ x. Echoes x.message x.reply) exchanges
  pub stream : StreamFinishes exchanges end before after [] 0 0

-- What a message tells by its header and its head.
use Rattle.std.specs.Prelude.{◌≡◌, ◌≤◌, ◌<◌, ◌^◌, length, Ok}
use Rattle.std.specs.List.{slice_index}
use Rattle.td_giop.specs.declared.head.RequestHead.{RequestHead}
use Rattle.td_giop.specs.declared.raw.Raw.{Raw}
use Rattle.td_giop.specs.declared.header.TheConstants.{HEADER_SIZE, NEWEST_MINOR, MINOR_PLACE, ORDER_PLACE, TYPE_PLACE}
use Rattle.td_giop.specs.declared.message_type.TheConstants.{REQUEST, CANCEL_REQUEST, LOCATE_REQUEST}
use Rattle.td_giop.specs.Header.{order_of_flag}
use Rattle.td_giop.specs.Heads.{Request as AskedOf, behind_header, request_at, locate_at, cancel_at}
use Rattle.td_stream.specs.declared.head.RequestedReply.{RequestedReply}
use Rattle.td_stream.specs.declared.head.RequestedReply.TheVariants.{Answer, Close, Break}
use Rattle.td_stream.specs.declared.head.Head.{Head}
use Rattle.td_stream.specs.declared.head.Head.TheVariants.{Request, Locate, Cancel}
use Rattle.td_stream.specs.Steps.{answers, closes, breaks, step_of}

-- a lent message tells its type, its order and its minor version by its header
pub record IsMessage (m : Raw) : Type 0 where
  pub kind : m.kind ≡ slice_index m.bytes.now TYPE_PLACE
  pub order : m.order ≡ order_of_flag (slice_index m.bytes.now ORDER_PLACE)
  pub minor : m.minor ≡ slice_index m.bytes.now MINOR_PLACE
  pub newest : m.minor ≤ NEWEST_MINOR
  pub least : HEADER_SIZE ≤ length m.bytes.now
  pub most : length m.bytes.now < 2 ^ 32

-- ---- of which type it is

abbrev pub IsRequest : Raw → Type 0
IsRequest m = m.kind ≡ REQUEST

abbrev pub IsCancelRequest : Raw → Type 0
IsCancelRequest m = m.kind ≡ CANCEL_REQUEST

abbrev pub IsLocateRequest : Raw → Type 0
IsLocateRequest m = m.kind ≡ LOCATE_REQUEST

-- ---- its head

abbrev pub asked_of : RequestHead → AskedOf
asked_of h = record {
  id = h.id;
  answered = h.answered;
  key = h.key.now;
  operation = h.operation.now;
}

-- the message is of this type, and has this head
abbrev pub HasHead : Raw → Head → Type 0
HasHead m (Request h) =
    IsRequest m × (request_at m.minor (behind_header m.order m.bytes.now) ≡ Ok (asked_of h, h.body))
HasHead m (Locate id key) =
    IsLocateRequest m × (locate_at (behind_header m.order m.bytes.now) ≡ Ok (id, key.now))
HasHead m (Cancel id) = IsCancelRequest m × (cancel_at (behind_header m.order m.bytes.now) ≡ Ok id)

-- what a message asks, with its head where it is answered
abbrev pub ClassifiesMessage : Raw → RequestedReply → Type 0
ClassifiesMessage m (Answer head) = (step_of m.bytes.now ≡ answers) × HasHead m head
ClassifiesMessage m Close = step_of m.bytes.now ≡ closes
ClassifiesMessage m (Break cause) = step_of m.bytes.now ≡ breaks cause

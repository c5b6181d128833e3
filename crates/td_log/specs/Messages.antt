-- The messages of a log: whole GIOP messages, as hexadecimal digits of either case (CORBA, chapter on General Inter-ORB
-- Protocol, "GIOP Message Header", "Request Header", "Request Body", "Reply Header" and "Reply Body").
use Rattle.std.specs.Prelude.{ℕ, ◌+◌, nat_eq, List, length, if◌then◌else◌, Option, Some, None, Result, Ok, Err, ◌&&◌}
use Rattle.std.specs.Result.{result_ok}
use Rattle.std.specs.Str.{bytes_eq}
use Rattle.hex.specs.Hex.{decode_of}
use Rattle.td_cdr.specs.Place.{At}
use Rattle.td_cdr.specs.declared.order.Order.{Order}
use Rattle.td_typecode.specs.declared.reference.Ior.{Ior}
use Rattle.td_giop.specs.Header.{header_at}
use Rattle.td_giop.specs.Heads.{Request, behind_header, reply_at, request_at}
use Rattle.td_giop.specs.declared.fault.FrameFault.{FrameFault}
use Rattle.td_giop.specs.declared.header.Header.{Header}
use Rattle.td_giop.specs.declared.header.TheConstants.{HEADER_SIZE}
use Rattle.td_giop.specs.declared.message_type.TheConstants.{REPLY, REQUEST}
use Rattle.td_ior.specs.Keys.{◌>>=◌, key_of}
use Rattle.td_ior.specs.Nil.{nil}
use Rattle.td_ops.specs.Answers.{answer_of}
use Rattle.td_ops.specs.Calls.{call_read}
use Rattle.td_ops.specs.Refusals.{reading_of}
use Rattle.td_ops.specs.declared.call.Call.{Call}
use Rattle.td_ops.specs.declared.fault.OpsFault.{OpsFault}
use Rattle.td_ops.specs.declared.operation.Operation.{Operation}
use Rattle.td_ops.specs.declared.outcome.Answered.{Answered}
use Rattle.td_ops.specs.declared.outcome.Answered.TheVariants.{Done, User, System}
use Rattle.td_ops.specs.declared.outcome.Reply.{Reply}
use Rattle.td_ops.specs.declared.outcome.Reply.TheVariants.{Found, Ids}
use Rattle.td_value.specs.declared.key.ObjectKey.{ObjectKey}
use Rattle.td_log.specs.declared.message.Recorded.{Recorded}
use Rattle.td_log.specs.declared.message.ReplyForm.{ReplyForm}
use Rattle.td_log.specs.declared.message.Version.{Version}
use Rattle.td_log.specs.declared.message.Version.TheVariants.{V1_0, V1_1}

-- the octets that hexadecimal digits spell
abbrev pub octets_of : List ℕ → Option (List ℕ)
octets_of digits = result_ok (decode_of digits)

-- ---- a message by itself

-- the most bytes that a size field can tell
abbrev pub most : ℕ
most = 4294967295

-- a header that tells as many bytes as there are behind it, in so many of all
abbrev pub whole_in : (count : ℕ) → Result (Option Header) FrameFault → Option Header
whole_in count (Ok (Some h)) = if nat_eq count (HEADER_SIZE + h.size) then Some h else None
whole_in count (Ok None) = None
whole_in count (Err f) = None

-- the good header of a message of this type that stands by itself
unfoldable pub header_of : (kind : ℕ) → (message : List ℕ) → Option Header
header_of kind message = whole_in (length message) (header_at most message) >>= λ h.
    if nat_eq h.kind kind then Some h else None

-- The same of a message of this type that stands in front of so many bytes.
abbrev pub if_alone : {A : Type 0} → (wanted count kind : ℕ) → (message : List ℕ) → Option A
    → Option A
if_alone wanted count kind message found =
    if nat_eq count (length message) && nat_eq kind wanted then found else None

-- ---- a Request

-- of the minor version 0 or 1
abbrev pub version_of : (minor : ℕ) → Version
version_of minor = if nat_eq minor 0 then V1_0 else V1_1

-- the order, the version and the id of a Request, which its reply has too
abbrev pub form_of : Order → (minor : ℕ) → Request → ReplyForm
form_of order minor r = record { order = order; version = version_of minor; id = r.id }

-- what was read of a call, whatever follows it
abbrev pub parse_call : Result (Call × At) OpsFault → Option Call
parse_call (Ok c) = Some c.0
parse_call (Err f) = None

-- the call of an object of the trader of this name
abbrev pub call_of_object : (name : List ℕ) → Request → (body : At) → ObjectKey → Option Call
call_of_object name r body key =
    if bytes_eq key.trader name then parse_call (call_read key.kind r.operation body) else None

-- the same behind a head, and the form of its reply
abbrev pub request_behind : (name : List ℕ) → Order → (minor : ℕ) → Request → (body : At)
    → Option (ReplyForm × Call)
request_behind name order minor r body = do
  key ← key_of r.key
  c ← call_of_object name r body key
  Some (form_of order minor r, c)

-- The call that a Request of this order and version spells, for an object of the trader of this name, and the form of
-- its reply. Anything may follow the last parameter.
unfoldable pub request_in : (name : List ℕ) → Order → (minor : ℕ) → (message : List ℕ)
    → Option (ReplyForm × Call)
request_in name order minor message =
    result_ok (request_at minor (behind_header order message)) >>= λ r.
    request_behind name order minor r.0 r.1

-- the same of a message by itself
unfoldable pub request_of : (name message : List ℕ) → Option (ReplyForm × Call)
request_of name message = header_of REQUEST message >>= λ h. request_in name h.order h.minor message

-- the same in hexadecimal digits
abbrev pub parse_request : (name digits : List ℕ) → Option (ReplyForm × Call)
parse_request name digits = octets_of digits >>= request_of name

-- ---- a Reply

-- the reference of the iterator that a result has, nil where it has none
abbrev pub iterator_in : Reply → Ior
iterator_in (Found offers iterator limits) = iterator
iterator_in (Ids ids iterator) = iterator
iterator_in other = nil

abbrev pub iterator_of : Answered → Ior
iterator_of (Done reply) = iterator_in reply
iterator_of (User id) = nil
iterator_of (System id minor completion) = nil

abbrev pub recorded_answer : (message : List ℕ) → Answered → Recorded
recorded_answer message a = record { bytes = message; iterator = iterator_of a }

-- what was read of an answer, whatever follows it
abbrev pub parse_answer : (message : List ℕ) → Result (Answered × At) OpsFault → Option Recorded
parse_answer message (Ok a) = Some (recorded_answer message a.0)
parse_answer message (Err f) = None

-- A Reply of this order to a call of this operation. Anything may follow its body.
unfoldable pub reply_in : Operation → Order → (message : List ℕ) → Option Recorded
reply_in operation order message =
    result_ok (reply_at (behind_header order message)) >>= λ r.
    parse_answer message (reading_of ((answer_of operation r.0.status).format.reads r.1))

-- the same of a message by itself
unfoldable pub reply_of : Operation → (message : List ℕ) → Option Recorded
reply_of operation message = header_of REPLY message >>= λ h. reply_in operation h.order message

-- the same in hexadecimal digits
abbrev pub parse_reply : Operation → (digits : List ℕ) → Option Recorded
parse_reply operation digits = octets_of digits >>= reply_of operation

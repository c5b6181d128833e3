-- What bytes come to for a client that waits for a reply (CORBA, chapter on General Inter-ORB Protocol, "Reply
-- Message"): the first message must be a Reply with the request's id, and a body that can be read.
use Rattle.std.specs.Prelude.{ℕ, ◌+◌, nat_eq, nat_lt, if◌then◌else◌, List, length, take, Option, Some, None}
use Rattle.std.specs.Prelude.{option_and_then, Result, Ok, Err}
use Rattle.td_cdr.specs.declared.fault.CdrFault.{CdrFault}
use Rattle.td_cdr.specs.declared.order.Order.{Order}
use Rattle.td_cdr.specs.Place.{At}
use Rattle.td_giop.specs.declared.fault.FrameFault.{FrameFault}
use Rattle.td_giop.specs.declared.header.Header.{Header}
use Rattle.td_giop.specs.declared.header.TheConstants.{HEADER_SIZE}
use Rattle.td_giop.specs.declared.limit.TheConstants.{CLIENT_LIMIT}
use Rattle.td_giop.specs.declared.message_type.TheConstants.{REPLY}
use Rattle.td_giop.specs.Header.{header_at}
use Rattle.td_giop.specs.Heads.{Reply, reply_at, behind_header}

-- what a client is told by a reply's status and body; nothing where they are outside the grammar
abbrev pub Reading : Type 0 → Type 0
Reading A = ℕ → At → Option A

-- the most bytes that may follow a header
abbrev pub reply_limit : ℕ
reply_limit = CLIENT_LIMIT

pub data ReplyResult (A : Type 0) : Type 0 where
  -- a reply that tells this, of so many bytes
  content : A → ℕ → ReplyResult A
  -- something else
  strange : ReplyResult A
  -- the bytes end before a message is whole
  short : ReplyResult A

abbrev pub comes_of : {A : Type 0} → Option A → (size : ℕ) → ReplyResult A
comes_of (Some a) size = content a size
comes_of None size = strange

abbrev pub reply_head : (id status : ℕ) → Reply
reply_head id status = record { id = id; status = status }

-- the status and the body, behind the head of a Reply to the request of this id
abbrev pub body_of : (id : ℕ) → Result (Reply × At) CdrFault → Option (ℕ × At)
body_of id (Ok head) = if nat_eq head.0.id id then Some (head.0.status, head.1) else None
body_of id (Err f) = None

-- those of a whole message of this type and order
unfoldable pub reply_body : (id : ℕ) → (kind : ℕ) → Order → (message : List ℕ) → Option (ℕ × At)
reply_body id kind order message =
    if nat_eq kind REPLY then body_of id (reply_at (behind_header order message)) else None

-- what a whole message tells
abbrev pub message_read : {A : Type 0} → Reading A → (id : ℕ) → (kind : ℕ) → Order
    → (message : List ℕ) → Option A
message_read reads id kind order message =
    option_and_then (λ (b : ℕ × At). reads b.0 b.1) (reply_body id kind order message)

abbrev pub by_header : {A : Type 0} → Reading A → (id : ℕ) → (given : List ℕ)
    → Result (Option Header) FrameFault → ReplyResult A
by_header reads id given (Ok (Some h)) =
    if nat_lt (length given) (HEADER_SIZE + h.size) then short
    else comes_of (message_read reads id h.kind h.order (take (HEADER_SIZE + h.size) given))
    (HEADER_SIZE + h.size)
by_header reads id given (Ok None) = short
by_header reads id given (Err f) = strange

-- what the bytes come to that a connection gives
unfoldable pub reply_value : {A : Type 0} → Reading A → (id : ℕ) → (given : List ℕ) → ReplyResult A
reply_value reads id given = by_header reads id given (header_at reply_limit given)

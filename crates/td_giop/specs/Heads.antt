-- The heads of the messages of GIOP 1.0 and 1.1 (chapter "General Inter-ORB Protocol", "GIOP Messages"), as formats,
-- and read from behind the message header.
use Rattle.std.specs.Prelude.{ℕ, zero, suc, ◌^◌, ◌≤◌, ◌<◌, Bool, List, [], length, drop, Result, Ok, Err, refl}
use Rattle.std.proofs.Common.{arith}
use Rattle.td_cdr.specs.declared.order.Order.{Order}
use Rattle.td_cdr.specs.declared.fault.CdrFault.{CdrFault}
use Rattle.td_cdr.specs.Place.{At}
use Rattle.td_cdr.specs.Format.{Read, ◌>>=◌}
use Rattle.td_cdr.specs.Sound.{Sound, ◌&◌, structure, placeholder, constant}
use Rattle.td_giop.specs.declared.header.TheConstants.{HEADER_SIZE}
use Rattle.td_giop.specs.Fields.{ulong, octet, boolean, octets, text, sequence}

-- ---- what the heads tell

pub record Request : Type 0 where
  pub id : ℕ
  pub answered : Bool
  pub key : List ℕ
  pub operation : List ℕ

pub record Reply : Type 0 where
  pub id : ℕ
  pub status : ℕ

-- ---- the fields, in the standard's order

-- a context: its id and its octets
abbrev pub context : Sound CdrFault (ℕ × List ℕ)
context = ulong & octets

pub no_contexts-admitted : (sequence context).format.admits []
no_contexts-admitted = (omega arith, refl)

-- any contexts, which are passed over; none are written
abbrev pub contexts : Sound CdrFault (Unit {0})
contexts = placeholder [] (sequence context) no_contexts-admitted

-- any principal, which is passed over; an empty one is written
abbrev pub principal : Sound CdrFault (Unit {0})
principal = placeholder [] octets tt

-- any three octets, which are passed over; zeros are written
abbrev pub reserved_octets : Sound CdrFault (Unit {0})
reserved_octets = placeholder (0, (0, 0)) (octet & octet & octet)
    (omega arith, (omega arith, omega arith))

-- version 1.0 has none
abbrev pub reserved_field : (minor : ℕ) → Sound CdrFault (Unit {0})
reserved_field zero = constant tt
reserved_field (suc newer) = reserved_octets

abbrev pub request_of : Unit {0} × (ℕ × (Bool × (Unit {0} × (List ℕ × (List ℕ × Unit {0})))))
    → Request
request_of p = record {
  id = p.1.0;
  answered = p.1.1.0;
  key = p.1.1.1.1.0;
  operation = p.1.1.1.1.1.0;
}

-- contexts, request id, response expected, reserved octets, object key, operation, principal
abbrev pub request : (minor : ℕ) → Sound CdrFault Request
request minor =
    structure request_of (λ x. (tt, (x.id, (x.answered, (tt, (x.key, (x.operation, tt)))))))
    (λ _. refl) (λ _. refl) (contexts & ulong & boolean & reserved_field minor & octets & text &
    principal)

abbrev pub reply_of : Unit {0} × (ℕ × ℕ) → Reply
reply_of p = record { id = p.1.0; status = p.1.1 }

-- contexts, request id, reply status
abbrev pub reply : Sound CdrFault Reply
reply = structure reply_of (λ x. (tt, (x.id, x.status))) (λ _. refl) (λ _. refl)
    (contexts & ulong & ulong)

-- request id, object key
abbrev pub locate_request : Sound CdrFault (ℕ × List ℕ)
locate_request = ulong & octets

-- request id, locate status
abbrev pub locate_reply : Sound CdrFault (ℕ × ℕ)
locate_reply = ulong & ulong

-- request id
abbrev pub cancel_request : Sound CdrFault ℕ
cancel_request = ulong

-- ---- reading them

-- a message with a whole header, of which a u32 can name each place
pub record IsReadable (bytes : List ℕ) : Type 0 where
  pub header : HEADER_SIZE ≤ length bytes
  pub places : length bytes < 2 ^ 32

-- behind the header's octets; alignment counts from the message's first
abbrev pub behind_header : Order → List ℕ → At
behind_header order bytes = record {
  rest = drop HEADER_SIZE bytes;
  place = HEADER_SIZE;
  origin = 0;
  order = order;
}

-- a reading whose value is dropped
abbrev pub skip_value : {F Y : Type 0} → Read F Y → Read F (Unit {0})
skip_value r = r >>= λ v. Ok (tt, v.1)

-- the head of a Request of this minor version, and where its parameters begin
unfoldable pub request_at : (minor : ℕ) → At → Result (Request × At) CdrFault
request_at minor a = (request minor).format.reads a

-- a Reply's head, and where its body begins
unfoldable pub reply_at : At → Result (Reply × At) CdrFault
reply_at a = reply.format.reads a

-- what is read, and what follows it is ignored
abbrev pub alone : {Y : Type 0} → Result (Y × At) CdrFault → Result Y CdrFault
alone (Ok v) = Ok v.0
alone (Err e) = Err e

-- a LocateRequest: request id and object key
unfoldable pub locate_at : At → Result (ℕ × List ℕ) CdrFault
locate_at a = alone (locate_request.format.reads a)

-- a LocateReply: request id and locate status
unfoldable pub locate_reply_at : At → Result (ℕ × ℕ) CdrFault
locate_reply_at a = alone (locate_reply.format.reads a)

-- a CancelRequest: request id
unfoldable pub cancel_at : At → Result ℕ CdrFault
cancel_at a = alone (cancel_request.format.reads a)

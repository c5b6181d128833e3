-- What the writers of messages of GIOP 1.0 and 1.1 append (chapter "General Inter-ORB Protocol", "GIOP Messages"): the
-- header, with 0 in the size field until the message is sealed, and then the head.
use Rattle.std.specs.Prelude.{◌<◌, ◌≤◌, ◌+◌, ◌-◌, ◌^◌, ℕ, Bool, List, [], ◌∷◌, ◌++◌, length, take, drop}
use Rattle.td_cdr.specs.declared.order.Order.{Order}
use Rattle.td_cdr.specs.Place.{At}
use Rattle.td_cdr.specs.Gap.{gap, bytes_of, flag}
use Rattle.td_cdr.specs.Format.{Piece}
use Rattle.td_giop.specs.declared.header.TheConstants.{HEADER_SIZE, MAGIC, MAJOR, SIZE_PLACE}
use Rattle.td_giop.specs.declared.message_type.TheConstants.{REQUEST, REPLY, LOCATE_REQUEST, LOCATE_REPLY}
use Rattle.td_giop.specs.Header.{GoodHeader}
use Rattle.td_giop.specs.Heads.{Request, request, reply, locate_request, locate_reply}

-- the message header, whose size isn't known yet
abbrev pub header_written : Order → (minor : ℕ) → (kind : ℕ) → List ℕ
header_written order minor kind = MAGIC ++ MAJOR ∷ minor ∷ flag order ∷ kind ∷ 0 ∷ 0 ∷ 0 ∷ 0 ∷ []

-- a header of this type, and what follows it
abbrev pub message : (minor : ℕ) → (kind : ℕ) → Piece → Order → List ℕ
message minor kind head order = header_written order minor kind ++ head order HEADER_SIZE

-- Request: no contexts, request id, response expected, object key, operation, no principal
unfoldable pub request_start : Order → (minor : ℕ) → ℕ → Bool → List ℕ → List ℕ → List ℕ
request_start order minor id answered key operation =
    let head : Request = record { id = id; answered = answered; key = key; operation = operation }
    in
    message minor REQUEST ((request minor).format.writes head) order

-- Reply: no contexts, request id, reply status
unfoldable pub reply_start : Order → (minor : ℕ) → ℕ → ℕ → List ℕ
reply_start order minor id status =
    message minor REPLY (reply.format.writes (record { id = id; status = status })) order

-- LocateRequest: request id, object key
unfoldable pub locate_written : Order → (minor : ℕ) → ℕ → List ℕ → List ℕ
locate_written order minor id key = message minor LOCATE_REQUEST
    (locate_request.format.writes (id, key)) order

-- LocateReply: request id, locate status
unfoldable pub locate_reply_written : Order → (minor : ℕ) → ℕ → ℕ → List ℕ
locate_reply_written order minor id status = message minor LOCATE_REPLY
    (locate_reply.format.writes (id, status)) order

-- ---- how long they are

-- where so many octets end whose number is the next item
abbrev pub octets_end : ℕ → ℕ → ℕ
octets_end place len = place + (gap 4 place + 4 + len)

-- how long the start of a Request is with a key and an operation of these lengths
abbrev pub request_size : ℕ → ℕ → ℕ
request_size key operation = octets_end (octets_end (octets_end (HEADER_SIZE + 9) key)
    (operation + 1)) 0

-- ---- a sealed message

-- the same bytes with the size of what follows the header in its field
abbrev pub seal_size : Order → List ℕ → List ℕ
seal_size order bytes = take SIZE_PLACE bytes ++ bytes_of order 4 (length bytes - HEADER_SIZE)
    ++ drop HEADER_SIZE bytes

-- where a reader stands once it has read a start
abbrev pub at_body : Order → List ℕ → List ℕ → At
at_body order start body = record { rest = body; place = length start; origin = 0; order = order }

-- once it is sealed, it is a whole good message, if a size field can tell its size and the limit allows it
pub record IsSealed (limit : ℕ) (minor : ℕ) (order : Order) (kind : ℕ)
    (bytes : List ℕ) : Type 0 where
  pub good : length bytes < 2 ^ 32 → length bytes ≤ limit + HEADER_SIZE
      → GoodHeader limit (seal_size order bytes) minor order kind (length bytes - HEADER_SIZE)

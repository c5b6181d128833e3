-- What a message tells by its header, and which messages may be sent to a server (CORBA, chapter on General Inter-ORB
-- Protocol, "GIOP Messages").
use Rattle.std.specs.Prelude.{◌≡◌, ◌≢◌, ℕ, Bool, ◌||◌, nat_eq, List, [], ◌∷◌, IsOk}
use Rattle.std.specs.List.{slice_index}
use Rattle.td_cdr.specs.declared.order.Order.{Order}
use Rattle.td_cdr.specs.Place.{At}
use Rattle.td_giop.specs.declared.header.TheConstants.{MINOR_PLACE, ORDER_PLACE, TYPE_PLACE}
use Rattle.td_giop.specs.declared.limit.TheConstants.{SERVER_LIMIT}
use Rattle.td_giop.specs.declared.message_type.TheConstants.{REQUEST, REPLY, CANCEL_REQUEST, LOCATE_REQUEST}
use Rattle.td_giop.specs.declared.message_type.TheConstants.{LOCATE_REPLY, CLOSE_CONNECTION, MESSAGE_ERROR}
use Rattle.td_giop.specs.Cut.{IsMessage}
use Rattle.td_giop.specs.Header.{order_of_flag}
use Rattle.td_giop.specs.Heads.{behind_header, request_at, locate_at, cancel_at}

-- how many bytes may follow a header: 16 MiB
abbrev pub message_limit : ℕ
message_limit = SERVER_LIMIT

-- ---- a message

-- the type that a message's header tells
abbrev pub kind_of : List ℕ → ℕ
kind_of message = slice_index message TYPE_PLACE

abbrev pub is_request : List ℕ → Bool
is_request message = nat_eq (kind_of message) REQUEST

abbrev pub order_of : List ℕ → Order
order_of message = order_of_flag (slice_index message ORDER_PLACE)

-- the minor version that a message's header tells
abbrev pub minor_of : List ℕ → ℕ
minor_of message = slice_index message MINOR_PLACE

-- behind the message's header
abbrev pub behind : List ℕ → At
behind message = behind_header (order_of message) message

-- a CloseConnection or a MessageError
abbrev pub is_closing : List ℕ → Bool
is_closing message = nat_eq (kind_of message) CLOSE_CONNECTION
    || nat_eq (kind_of message) MESSAGE_ERROR

-- a whole message that may be sent to a server, with its head in the grammar
pub record IsForServer (message : List ℕ) : Type 0 where
  pub whole : IsMessage message_limit message
  pub no_reply : kind_of message ≢ REPLY
  pub no_locate_reply : kind_of message ≢ LOCATE_REPLY
  pub request : kind_of message ≡ REQUEST → IsOk (request_at (minor_of message) (behind message))
  pub locate : kind_of message ≡ LOCATE_REQUEST → IsOk (locate_at (behind message))
  pub cancel : kind_of message ≡ CANCEL_REQUEST → IsOk (cancel_at (behind message))

-- a MessageError in big order
abbrev pub message_error : List ℕ
message_error = 71 ∷ 73 ∷ 79 ∷ 80 ∷ 1 ∷ 0 ∷ 0 ∷ 6 ∷ 0 ∷ 0 ∷ 0 ∷ 0 ∷ []

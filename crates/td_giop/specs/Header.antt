-- The message header of GIOP 1.0 and 1.1 (chapter "General Inter-ORB Protocol", "GIOP Message Header"): the
-- octets 'G' 'I' 'O' 'P', the major and the minor version, the octet of flags, which tells the order, the message
-- type, and the size of what follows as an unsigned long in that order.
use Rattle.std.specs.Prelude.{◌≡◌, ◌≤◌, ◌<◌, ◌&&◌, ◌%◌, ℕ, Bool, nat_eq, nat_lt, nat_le, not, if◌then◌else◌, List}
use Rattle.std.specs.Prelude.{length, drop}
use Rattle.std.specs.Prelude.{slice_index, Option, Some, None, Result, Ok, Err}
use Rattle.td_cdr.specs.declared.order.Order.{Order}
use Rattle.td_cdr.specs.declared.order.Order.TheVariants.{Big, Little}
use Rattle.td_cdr.specs.Reading.{number}
use Rattle.td_giop.specs.declared.fault.FrameFault.{FrameFault}
use Rattle.td_giop.specs.declared.fault.FrameFault.TheVariants.{BadMagic, BadVersion, BadType, TooLarge, Fragmented}
use Rattle.td_giop.specs.declared.header.Header.{Header}
use Rattle.td_giop.specs.declared.header.TheConstants.{HEADER_SIZE, MAGIC, MAJOR, NEWEST_MINOR, MAJOR_PLACE}
use Rattle.td_giop.specs.declared.header.TheConstants.{MINOR_PLACE, ORDER_PLACE, TYPE_PLACE, SIZE_PLACE}
use Rattle.td_giop.specs.declared.message_type.TheConstants.{MESSAGE_ERROR}

-- ---- the header in the standard's words

-- the first four octets are 'GIOP'
pub record HasMagic (bytes : List ℕ) : Type 0 where
  pub g : slice_index bytes 0 ≡ slice_index MAGIC 0
  pub i : slice_index bytes 1 ≡ slice_index MAGIC 1
  pub o : slice_index bytes 2 ≡ slice_index MAGIC 2
  pub p : slice_index bytes 3 ≡ slice_index MAGIC 3

-- version 1.0 or 1.1
pub record HasVersion (bytes : List ℕ) : Type 0 where
  pub major : slice_index bytes MAJOR_PLACE ≡ MAJOR
  pub minor : slice_index bytes MINOR_PLACE ≤ NEWEST_MINOR

-- the message is of version 1.1, and the second bit of its flags tells that fragments of it follow
pub record IsFragmented (bytes : List ℕ) : Type 0 where
  pub newer : 0 < slice_index bytes MINOR_PLACE
  pub flag : 2 ≤ slice_index bytes ORDER_PLACE % 4

-- the lowest bit of the order octet is 0 for big and 1 for little
abbrev pub TellsOrder : ℕ → Order → Type 0
TellsOrder octet Big = octet % 2 ≡ 0
TellsOrder octet Little = octet % 2 ≡ 1

-- one of Request, Reply, CancelRequest, LocateRequest, LocateReply, CloseConnection and MessageError
abbrev pub HasType : List ℕ → ℕ → Type 0
HasType bytes kind = (slice_index bytes TYPE_PLACE ≡ kind) × (kind ≤ MESSAGE_ERROR)

-- bytes begin with a good header of a whole message of this version, order and type, which is followed by size bytes
pub record GoodHeader (limit : ℕ) (bytes : List ℕ) (minor : ℕ) (order : Order)
    (kind size : ℕ) : Type 0 where
  pub whole : HEADER_SIZE ≤ length bytes
  pub magic : HasMagic bytes
  pub version : HasVersion bytes
  pub minor_octet : slice_index bytes MINOR_PLACE ≡ minor
  pub unfragmented : IsFragmented bytes → ⊥
  pub order_octet : TellsOrder (slice_index bytes ORDER_PLACE) order
  pub type_octet : HasType bytes kind
  pub size_field : number order 4 (drop SIZE_PLACE bytes) ≡ size
  pub within : size ≤ limit

-- ---- judging a header

abbrev pub has_magic : List ℕ → Bool
has_magic bytes =
    nat_eq (slice_index bytes 0) (slice_index MAGIC 0)
    && (nat_eq (slice_index bytes 1) (slice_index MAGIC 1)
    && (nat_eq (slice_index bytes 2) (slice_index MAGIC 2)
    && nat_eq (slice_index bytes 3) (slice_index MAGIC 3)))

abbrev pub has_version : List ℕ → Bool
has_version bytes = nat_eq (slice_index bytes MAJOR_PLACE) MAJOR
    && nat_le (slice_index bytes MINOR_PLACE) NEWEST_MINOR

abbrev pub is_fragmented : List ℕ → Bool
is_fragmented bytes = nat_lt 0 (slice_index bytes MINOR_PLACE)
    && nat_le 2 (slice_index bytes ORDER_PLACE % 4)

abbrev pub order_of_flag : ℕ → Order
order_of_flag octet = if nat_eq (octet % 2) 0 then Big else Little

abbrev pub size_in_header : Order → List ℕ → ℕ
size_in_header order bytes = number order 4 (drop SIZE_PLACE bytes)

-- the header in front, none where its octets aren't there yet, or the first fault in the order magic,
-- version, flags, type, size
unfoldable pub header_at : ℕ → List ℕ → Result (Option Header) FrameFault
header_at limit bytes =
    if nat_lt (length bytes) HEADER_SIZE then Ok None
    else if not (has_magic bytes) then Err BadMagic
    else if not (has_version bytes) then Err BadVersion
    else if is_fragmented bytes then Err Fragmented
    else if nat_lt MESSAGE_ERROR (slice_index bytes TYPE_PLACE) then Err BadType
    else if nat_lt limit (size_in_header (order_of_flag (slice_index bytes ORDER_PLACE)) bytes)
    then Err TooLarge
    else Ok (Some (record {
      kind = slice_index bytes TYPE_PLACE;
      order = order_of_flag (slice_index bytes ORDER_PLACE);
      size = size_in_header (order_of_flag (slice_index bytes ORDER_PLACE)) bytes;
      minor = slice_index bytes MINOR_PLACE;
    }))

-- what is wrong with a header that is there: the first that fails
abbrev pub FirstFault : FrameFault → ℕ → List ℕ → Type 0
FirstFault BadMagic limit bytes = HasMagic bytes → ⊥
FirstFault BadVersion limit bytes = HasMagic bytes × (HasVersion bytes → ⊥)
FirstFault Fragmented limit bytes = HasMagic bytes × HasVersion bytes × IsFragmented bytes
FirstFault BadType limit bytes =
    HasMagic bytes × HasVersion bytes × (IsFragmented bytes → ⊥)
    × (MESSAGE_ERROR < slice_index bytes TYPE_PLACE)
FirstFault TooLarge limit bytes =
    HasMagic bytes × HasVersion bytes × (IsFragmented bytes → ⊥)
    × (slice_index bytes TYPE_PLACE ≤ MESSAGE_ERROR)
    × ((order : Order) → TellsOrder (slice_index bytes ORDER_PLACE) order
    → limit < number order 4 (drop SIZE_PLACE bytes))

-- a header that is there, and the fault that is its first
abbrev pub IsFault : FrameFault → ℕ → List ℕ → Type 0
IsFault fault limit bytes = (HEADER_SIZE ≤ length bytes) × FirstFault fault limit bytes

-- what an answer says of the bytes
abbrev pub JudgesHeader : ℕ → List ℕ → Result (Option Header) FrameFault → Type 0
JudgesHeader limit bytes (Ok None) = length bytes < HEADER_SIZE
JudgesHeader limit bytes (Ok (Some h)) = GoodHeader limit bytes h.minor h.order h.kind h.size
JudgesHeader limit bytes (Err fault) = IsFault fault limit bytes

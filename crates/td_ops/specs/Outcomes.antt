-- What a server replies: a result, or the repository id of an exception and its members in the order of
-- their declaration (CORBA, chapter on General Inter-ORB Protocol, "Reply Body", and chapter "Standard
-- Exceptions"; OMG's Trading Object Service).
use Rattle.std.specs.Prelude.{ℕ, ◌+◌, ◌≤◌, Bool, true, false, List, codes, length, nat_le, Result, IsOk}
use Rattle.td_cdr.specs.Format.{Piece, ◌then◌}
use Rattle.td_cdr.specs.Writing.{Draft}
use Rattle.td_cdr.specs.Sound.{text, ulong}
use Rattle.td_exceptions.specs.Exceptions.{exception_piece}
use Rattle.td_ops.specs.declared.outcome.SystemKind.{SystemKind}
use Rattle.td_ops.specs.declared.outcome.SystemKind.TheVariants as system
use Rattle.td_ops.specs.declared.outcome.Reply.TheVariants as reply
use Rattle.td_ops.specs.declared.outcome.Outcome.{Outcome}
use Rattle.td_ops.specs.declared.outcome.Outcome.TheVariants.{Done, User, System}
use Rattle.td_ops.specs.Shapes.{reply_piece}

-- the status of the reply that carries it: NO_EXCEPTION, USER_EXCEPTION, SYSTEM_EXCEPTION
abbrev pub outcome_status : Outcome → ℕ
outcome_status (Done r) = 0
outcome_status (User e) = 1
outcome_status (System kind minor completion) = 2

-- the repository id of a system exception
abbrev pub system_id : SystemKind → List ℕ
system_id system.Marshal = codes "IDL:omg.org/CORBA/MARSHAL:1.0"
system_id system.NoImplement = codes "IDL:omg.org/CORBA/NO_IMPLEMENT:1.0"
system_id system.BadOperation = codes "IDL:omg.org/CORBA/BAD_OPERATION:1.0"
system_id system.ObjectNotExist = codes "IDL:omg.org/CORBA/OBJECT_NOT_EXIST:1.0"
system_id system.ImpLimit = codes "IDL:omg.org/CORBA/IMP_LIMIT:1.0"
system_id system.NoMemory = codes "IDL:omg.org/CORBA/NO_MEMORY:1.0"

-- its bytes: the id, the minor code, and whether the call was done
abbrev pub system_piece : SystemKind → ℕ → ℕ → Piece
system_piece kind minor completion =
    text.format.writes (system_id kind) then ulong.format.writes minor then ulong.format.writes
    completion

-- what is written for an outcome
abbrev pub outcome_piece : Outcome → Piece
outcome_piece (Done r) = reply_piece r
outcome_piece (User e) = exception_piece e
outcome_piece (System kind minor completion) = system_piece kind minor completion

-- an id or a stem of so many bytes is short
abbrev pub short_length : ℕ
short_length = 64

-- the outcomes of few bytes, which a server answers even where it has no memory left
abbrev pub is_short : Outcome → Bool
is_short (Done reply.Nothing) = true
is_short (Done (reply.Id id)) = nat_le (length id) short_length
is_short (Done (reply.Number number)) = true
is_short (Done (reply.Truth truth)) = true
is_short (Done (reply.Follow rule)) = true
is_short (Done (reply.Stem octets)) = nat_le (length octets) short_length
is_short (Done (reply.Incarnation incarnation)) = true
is_short (Done _) = false
is_short (User e) = false
is_short (System kind minor completion) = true

-- ---- when a writer takes it

-- it is refused only for want of the writer's room
abbrev pub FitsRoom : {E : Type 0} → Piece → Draft → Result (Unit {0}) E → Type 0
FitsRoom piece old result = length old.bytes + length (piece old.order (length old.bytes))
    ≤ old.room → IsOk result

-- room for so many bytes suffices
abbrev pub SufficesRoom : {E : Type 0} → ℕ → Draft → Result (Unit {0}) E → Type 0
SufficesRoom bytes old result = length old.bytes + bytes ≤ old.room → IsOk result

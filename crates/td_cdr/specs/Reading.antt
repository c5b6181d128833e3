-- CORBA, General Inter-ORB Protocol, "CDR Transfer Syntax": how what stands at a place is read.
use Rattle.std.specs.Prelude.{◌≡◌, ℕ, ℤ, suc, ◌+◌, ◌-◌, ◌^◌, min, Bool, nat_lt, if◌then◌else◌, List, [], ◌∷◌, length}
use Rattle.std.specs.Prelude.{take, drop, Result, Ok, Err}
use Rattle.std.specs.Int.{Width, cast_signed}
use Rattle.byteorder.specs.Endian.{big_number, little_number}
use Rattle.td_cdr.specs.declared.order.Order.{Order}
use Rattle.td_cdr.specs.declared.order.Order.TheVariants.{Big, Little}
use Rattle.td_cdr.specs.declared.fault.CdrFault.{CdrFault}
use Rattle.td_cdr.specs.declared.fault.CdrFault.TheVariants.{Short, TooLong}
use Rattle.td_cdr.specs.Place.{At}
use Rattle.td_cdr.specs.Truth.{truth, order_of}
use Rattle.td_cdr.specs.Text.{text_of}
use Rattle.td_cdr.specs.Gap.{gap}

-- one reading, and then another where the first was not refused
infixl 10 ◌>>=◌
abbrev pub ◌>>=◌ : {F A B : Type 0} → Result A F → (A → Result B F) → Result B F
(Ok x) >>= f = f x
(Err e) >>= f = Err e

-- the number in the first n bytes
abbrev pub number : Order → ℕ → List ℕ → ℕ
number Big n bytes = big_number n bytes
number Little n bytes = little_number n bytes

-- Alignment: the bytes before the next primitive of this size
abbrev pub padding : ℕ → At → ℕ
padding size a = gap size (a.place - a.origin)

-- n bytes on
abbrev pub after : ℕ → At → At
after n a = record a { rest = drop n a.rest; place = a.place + n }

-- ---- reading: the value and where the reader then stands, or the first fault

-- where the next primitive of this size stands; a place past the last that a u32 can name is that last one
abbrev pub next_aligned : ℕ → At → ℕ
next_aligned size a = min (a.place + padding size a) (2 ^ 32 - 1)

-- the bytes of a primitive, behind its padding
unfoldable pub cell_at : ℕ → At → Result (List ℕ × At) CdrFault
cell_at size a =
    if nat_lt (length a.rest) (padding size a + size) then Err (Short (next_aligned size a))
    else Ok (take size (drop (padding size a) a.rest), after (padding size a + size) a)

-- Integer Data Types, Octet, Char: a number of so many bytes
unfoldable pub number_at : ℕ → At → Result (ℕ × At) CdrFault
number_at size a = do
  cell ← cell_at size a
  Ok (number a.order size cell.0, cell.1)

-- Integer Data Types: a signed number, in two's complement
unfoldable pub signed_at : Width → ℕ → At → Result (ℤ × At) CdrFault
signed_at width size a = do
  n ← number_at size a
  Ok (cast_signed width n.0, n.1)

-- Boolean: an octet that is 0 or 1
unfoldable pub boolean_at : At → Result (Bool × At) CdrFault
boolean_at a = do
  n ← number_at 1 a
  b ← truth a.place n.0
  Ok (b, n.1)

-- Sequence: bytes behind their number
unfoldable pub octets_at : At → Result (List ℕ × At) CdrFault
octets_at a = do
  n ← number_at 4 a
  if nat_lt (length n.1.rest) n.0 then Err (TooLong (next_aligned 4 a)) else Ok
      (take n.0 n.1.rest, after n.0 n.1)

-- Strings and Wide Strings: bytes behind their number, the last a NUL
unfoldable pub string_at : At → Result (List ℕ × At) CdrFault
string_at a = do
  bytes ← octets_at a
  text ← text_of (next_aligned 4 a) bytes.0
  Ok (text, bytes.1)

-- Encapsulation: a reader over octets that end at a place, the first of which tells the order. It counts alignment from
-- there
abbrev pub inside : ℕ → ℕ → List ℕ → Result At CdrFault
inside short end [] = Err (Short short)
inside short end (flag ∷ bytes) = do
  little ← truth (end - suc (length bytes)) flag
  Ok (record {
    rest = bytes;
    place = end - length bytes;
    origin = end - suc (length bytes);
    order = order_of little;
  })

-- Encapsulation: a sequence of octets, with the reader inside it and the one behind it
unfoldable pub encapsulation_at : At → Result (At × At) CdrFault
encapsulation_at a = do
  bytes ← octets_at a
  inner ← inside (next_aligned 4 a) bytes.1.place bytes.0
  Ok (inner, bytes.1)

-- a value inside an encapsulation
abbrev pub within : {Y : Type 0} → (At → Result (Y × At) CdrFault) → At → Result (Y × At) CdrFault
within reading a = encapsulation_at a >>= λ e. reading e.0 >>= λ v. Ok (v.0, e.1)

-- What a call of a reader answered, seen by view, is what reading gives. A refused reader is unchanged.
abbrev pub GivesOrStays : {X Y : Type 0} → (X → Y) → At → At → Result X CdrFault
    → Result (Y × At) CdrFault → Type 0
GivesOrStays view old new (Ok x) reading = reading ≡ Ok (view x, new)
GivesOrStays view old new (Err e) reading = (reading ≡ Err e) × (new ≡ old)

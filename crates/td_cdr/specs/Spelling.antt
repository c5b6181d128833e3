-- CORBA, General Inter-ORB Protocol, "CDR Transfer Syntax": which bytes spell which value at a place, as a relation of
-- whole values and whole byte lists. The place counts from where alignment counts from.
use Rattle.std.specs.Prelude.{◌≡◌, ℕ, ℤ, ◌+◌, ◌-◌, ◌≤◌, Bool, true, false, List, [], ◌∷◌, ◌++◌, length, drop, Result}
use Rattle.std.specs.Prelude.{Ok}
use Rattle.std.specs.Int.{Width, cast_signed}
use Rattle.td_cdr.specs.declared.order.Order.{Order}
use Rattle.td_cdr.specs.Truth.{order_of}
use Rattle.td_cdr.specs.Text.{HasNoNul}
use Rattle.td_cdr.specs.Gap.{gap}
use Rattle.td_cdr.specs.Place.{At}
use Rattle.td_cdr.specs.Reading.{after, number}

-- FALSE is 0 and TRUE is 1
abbrev pub IsFlag : Bool → ℕ → Type 0
IsFlag false n = n ≡ 0
IsFlag true n = n ≡ 1

-- Alignment, Integer Data Types: padding of any bytes up to the next multiple of size, and the bytes whose value is v
pub record SpellsNumber (size : ℕ) (order : Order) (place : ℕ) (v : ℕ) (b : List ℕ) : Type 0 where
  pub long : length b ≡ gap size place + size
  pub value : number order size (drop (gap size place) b) ≡ v

-- the same of a signed number, whose bytes are in two's complement
pub record SpellsSigned (width : Width) (size : ℕ) (order : Order) (place : ℕ) (v : ℤ)
    (b : List ℕ) : Type 0 where
  pub long : length b ≡ gap size place + size
  pub value : cast_signed width (number order size (drop (gap size place) b)) ≡ v

-- Boolean: an octet that is 0 or 1
pub record SpellsBoolean (order : Order) (place : ℕ) (v : Bool) (b : List ℕ) : Type 0 where
  pub flag : ℕ
  pub content : IsFlag v flag
  pub octet : SpellsNumber 1 order place flag b

-- Sequence: bytes behind their number
pub record SpellsOctets (order : Order) (place : ℕ) (v : List ℕ) (b : List ℕ) : Type 0 where
  pub count : List ℕ
  pub counted : SpellsNumber 4 order place (length v) count
  pub parts : b ≡ count ++ v

-- Strings and Wide Strings: the bytes of a string are the text and a NUL; those of an empty text may be none at all
pub data IsText (text : List ℕ) (kept : List ℕ) : Type 0 where
  closed : HasNoNul text → kept ≡ text ++ 0 ∷ [] → IsText text kept
  absent : text ≡ [] → kept ≡ [] → IsText text kept

-- a string's bytes behind their number
pub record SpellsString (order : Order) (place : ℕ) (v : List ℕ) (b : List ℕ) : Type 0 where
  pub kept : List ℕ
  pub text : IsText v kept
  pub octets : SpellsOctets order place kept b

-- OMG IDL Constructed Types: two items, the second at the place where the first ended
pub record SpellsThen {X Y : Type 0} (first : Order → ℕ → X → List ℕ → Type 0)
    (second : X → Order → ℕ → Y → List ℕ → Type 0)
    (order : Order) (place : ℕ) (v : X × Y) (b : List ℕ) : Type 0 where
  pub front : List ℕ
  pub back : List ℕ
  pub parts : b ≡ front ++ back
  pub spelled : first order place v.0 front
  pub then_spelled : second v.0 order (place + length front) v.1 back

-- Encapsulation: octets, the first of which tells the order for the value that is spelled from place 1 on; bytes may
-- follow it
pub record SpellsWithin {Y : Type 0} (inner : Order → ℕ → Y → List ℕ → Type 0) (order : Order)
    (place : ℕ) (v : Y) (b : List ℕ) : Type 0 where
  pub little : Bool
  pub flag : ℕ
  pub body : List ℕ
  pub ignored : List ℕ
  pub order_of_flag : IsFlag little flag
  pub octets : SpellsOctets order place (flag ∷ (body ++ ignored)) b
  pub spelled : inner (order_of little) 1 v body

-- what a reading found: a spelling at its place, which it went over
pub record FoundSpelling {Y : Type 0} (spells : Order → ℕ → Y → List ℕ → Type 0) (a : At) (v : Y)
    (next : At) : Type 0 where
  pub bytes : List ℕ
  pub spelled : spells a.order (a.place - a.origin) v bytes
  pub parts : a.rest ≡ bytes ++ next.rest
  pub moved : next ≡ after (length bytes) a

-- what is read is spelled so, and what is spelled so is read whatever follows
pub record Joins {F Y : Type 0} (spells : Order → ℕ → Y → List ℕ → Type 0)
    (reading : At → Result (Y × At) F) : Type 0 where
  pub found : (a : At) (v : Y) (next : At) → a.origin ≤ a.place → reading a ≡ Ok (v, next)
      → FoundSpelling spells a v next
  pub only : (a : At) (v : Y) (b rest : List ℕ) → a.origin ≤ a.place
      → spells a.order (a.place - a.origin) v b
      → a.rest ≡ b ++ rest → reading a ≡ Ok (v, after (length b) a)

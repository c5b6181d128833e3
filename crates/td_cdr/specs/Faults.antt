-- Where the bytes at a place are no value by CORBA, General Inter-ORB Protocol, "CDR Transfer Syntax", and which fault
-- that is, as a condition on the bytes. A fault is that of the first item that has no spelling, all items
-- before it having one.
use Rattle.std.specs.Prelude.{◌≡◌, ℕ, ◌+◌, ◌<◌, ◌≤◌, Bool, List, [], ◌∷◌, ◌++◌, length, Result, Err}
use Rattle.td_cdr.specs.declared.order.Order.{Order}
use Rattle.td_cdr.specs.declared.fault.CdrFault.{CdrFault}
use Rattle.td_cdr.specs.declared.fault.CdrFault.TheVariants.{Short, BadBoolean, BadString, TooLong}
use Rattle.td_cdr.specs.Truth.{order_of}
use Rattle.td_cdr.specs.Text.{HasNoNul}
use Rattle.td_cdr.specs.Place.{At}
use Rattle.td_cdr.specs.Reading.{padding, next_aligned}
use Rattle.td_cdr.specs.Spelling.{SpellsNumber, SpellsOctets, IsFlag, FoundSpelling}

-- the padding or the bytes of a primitive run past the end
pub record NumberFault (size : ℕ) (a : At) (f : CdrFault) : Type 0 where
  pub past : length a.rest < padding size a + size
  pub fault : f ≡ Short (next_aligned size a)

-- no octet, or one above 1
pub data BooleanFault (a : At) (f : CdrFault) : Type 0 where
  cut : NumberFault 1 a f → BooleanFault a f
  above : (octet : ℕ) (next : At) → FoundSpelling (SpellsNumber 1) a octet next → 1 < octet
      → f ≡ BadBoolean a.place → BooleanFault a f

-- no length, or one above the bytes that follow it
pub data OctetsFault (a : At) (f : CdrFault) : Type 0 where
  cut : NumberFault 4 a f → OctetsFault a f
  above : (count : ℕ) (next : At) → FoundSpelling (SpellsNumber 4) a count next → length next.rest
      < count
      → f ≡ TooLong (next_aligned 4 a) → OctetsFault a f

-- the last byte is a NUL, and no other
pub record IsClosed (kept : List ℕ) : Type 0 where
  pub text : List ℕ
  pub free : HasNoNul text
  pub ends : kept ≡ text ++ 0 ∷ []

-- no octets, or some that a NUL doesn't close
pub data StringFault (a : At) (f : CdrFault) : Type 0 where
  octets : OctetsFault a f → StringFault a f
  unclosed : (kept : List ℕ) (next : At) → FoundSpelling SpellsOctets a kept next → 0 < length kept
      → ¬ (IsClosed kept) → f ≡ BadString (next_aligned 4 a) → StringFault a f

-- where the octet stands that tells the order of the encapsulation whose length is next
abbrev pub order_place : At → ℕ
order_place a = a.place + (padding 4 a + 4)

-- inside an encapsulation, behind the octet that tells its order: alignment counts from that octet
abbrev pub within_at : At → Bool → List ℕ → At
within_at a little body = record {
  rest = body;
  place = order_place a + 1;
  origin = order_place a;
  order = order_of little;
}

-- a fault of an inner layer, under the outer layer's name of it
pub record OuterFault {E F : Type 0} (c : E → F) (inner : At → E → Type 0) (a : At)
    (f : F) : Type 0 where
  pub cause : E
  pub holds : inner a cause
  pub fault : f ≡ c cause

-- no octets, none in them, no order told, or what is inside is no value; c names a fault of the octets for the layer
-- inside
pub data WithinFault {F : Type 0} (c : CdrFault → F) (inner : At → F → Type 0) (a : At)
    (f : F) : Type 0 where
  octets : OuterFault c OctetsFault a f → WithinFault c inner a f
  empty : (next : At) → FoundSpelling SpellsOctets a [] next → f ≡ c (Short (next_aligned 4 a))
      → WithinFault c inner a f
  order : (flag : ℕ) (body : List ℕ) (next : At) → FoundSpelling SpellsOctets a (flag ∷ body) next
      → 1 < flag → f ≡ c (BadBoolean (order_place a)) → WithinFault c inner a f
  inside : (little : Bool) (flag : ℕ) (body : List ℕ) (next : At)
      → FoundSpelling SpellsOctets a (flag ∷ body) next
      → IsFlag little flag → inner (within_at a little body) f → WithinFault c inner a f

-- the first item is no value, or it is one and the second, where the first ended, is none
pub data ThenFault {F X : Type 0} (spells : Order → ℕ → X → List ℕ → Type 0)
    (first : At → F → Type 0) (second : X → At → F → Type 0) (a : At) (f : F) : Type 0 where
  first : first a f → ThenFault spells first second a f
  second : (v : X) (next : At) → FoundSpelling spells a v next → second v next f
      → ThenFault spells first second a f

-- a reading is refused with f exactly where f is the fault
pub record Refuses {F Y : Type 0} (faulty : At → F → Type 0)
    (reading : At → Result (Y × At) F) : Type 0 where
  pub content : (a : At) (f : F) → a.origin ≤ a.place → reading a ≡ Err f → faulty a f
  pub only : (a : At) (f : F) → a.origin ≤ a.place → faulty a f → reading a ≡ Err f

-- CORBA, General Inter-ORB Protocol, "CDR Transfer Syntax": every item that the calls of a reader and a writer make up:
-- the primitives, strings, sequences of octets, one item after another, and encapsulations of any of them, to any
-- depth.
use Rattle.std.specs.Prelude.{ℕ, ℤ, Bool, List, Result, Ok}
use Rattle.std.specs.Int.{w16, w32, w64}
use Rattle.td_cdr.specs.declared.order.Order.{Order}
use Rattle.td_cdr.specs.declared.fault.CdrFault.{CdrFault}
use Rattle.td_cdr.specs.Place.{At}
use Rattle.td_cdr.specs.Reading.{◌>>=◌, number_at, signed_at, boolean_at, octets_at, string_at, within}
use Rattle.td_cdr.specs.Spelling.{SpellsNumber, SpellsSigned, SpellsBoolean, SpellsOctets, SpellsString, SpellsThen}
use Rattle.td_cdr.specs.Spelling.{SpellsWithin}
use Rattle.td_cdr.specs.Faults.{NumberFault, BooleanFault, OctetsFault, StringFault, ThenFault, WithinFault}

-- the names are those of OMG IDL; octets is a sequence of octet, and pair any two members of a struct
pub data Item : Type 0 where
  octet ushort ulong ulonglong : Item
  short long longlong : Item
  boolean string octets : Item
  pair : Item → Item → Item
  encapsulated : Item → Item

-- what an item's value is: a char is an octet, a string its bytes without the NUL
abbrev pub ValueOf : Item → Type 0
ValueOf octet = ℕ
ValueOf ushort = ℕ
ValueOf ulong = ℕ
ValueOf ulonglong = ℕ
ValueOf short = ℤ
ValueOf long = ℤ
ValueOf longlong = ℤ
ValueOf boolean = Bool
ValueOf string = List ℕ
ValueOf octets = List ℕ
ValueOf (pair first second) = ValueOf first × ValueOf second
ValueOf (encapsulated inner) = ValueOf inner

-- which bytes spell the item's value in an order and at a place
abbrev pub Spells : (item : Item) → Order → ℕ → ValueOf item → List ℕ → Type 0
Spells octet = SpellsNumber 1
Spells ushort = SpellsNumber 2
Spells ulong = SpellsNumber 4
Spells ulonglong = SpellsNumber 8
Spells short = SpellsSigned w16 2
Spells long = SpellsSigned w32 4
Spells longlong = SpellsSigned w64 8
Spells boolean = SpellsBoolean
Spells string = SpellsString
Spells octets = SpellsOctets
Spells (pair first second) = SpellsThen (Spells first) (λ _. Spells second)
Spells (encapsulated inner) = SpellsWithin (Spells inner)

-- one reading after another
abbrev pub read_then : {X Y : Type 0} → (At → Result (X × At) CdrFault)
    → (X → At → Result (Y × At) CdrFault) → At → Result ((X × Y) × At) CdrFault
read_then first second a = first a >>= λ v. second v.0 v.1 >>= λ w. Ok ((v.0, w.0), w.1)

-- how the item is read
abbrev pub reading : (item : Item) → At → Result (ValueOf item × At) CdrFault
reading octet = number_at 1
reading ushort = number_at 2
reading ulong = number_at 4
reading ulonglong = number_at 8
reading short = signed_at w16 2
reading long = signed_at w32 4
reading longlong = signed_at w64 8
reading boolean = boolean_at
reading string = string_at
reading octets = octets_at
reading (pair first second) = read_then (reading first) (λ _. reading second)
reading (encapsulated inner) = within (reading inner)

-- where the item has no spelling, and the fault that this is
abbrev pub IsFaulty : Item → At → CdrFault → Type 0
IsFaulty octet = NumberFault 1
IsFaulty ushort = NumberFault 2
IsFaulty ulong = NumberFault 4
IsFaulty ulonglong = NumberFault 8
IsFaulty short = NumberFault 2
IsFaulty long = NumberFault 4
IsFaulty longlong = NumberFault 8
IsFaulty boolean = BooleanFault
IsFaulty string = StringFault
IsFaulty octets = OctetsFault
IsFaulty (pair first second) = ThenFault (Spells first) (IsFaulty first) (λ _. IsFaulty second)
IsFaulty (encapsulated inner) = WithinFault (λ f. f) (IsFaulty inner)

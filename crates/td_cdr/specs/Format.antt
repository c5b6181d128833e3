-- Formats of CORBA's common data representation: of each kind of value how it is read, which bytes
-- spell it, which values have a spelling, and what is written.
use Rattle.std.specs.Prelude.{◌≡◌, true, false, ℕ, ℤ, zero, suc, ◌+◌, ◌<◌, ◌^◌, Bool, IsTrue, if◌then◌else◌, List, []}
use Rattle.std.specs.Prelude.{◌∷◌, ◌++◌, length, map, take, Result, Ok, Err, OnErr, OnOk, IfOk, Option, Some, None}
use Rattle.std.specs.Int.{Width, from_bool, cast_unsigned}
use Rattle.std.specs.Int.RustNames.{FitsSigned}
use Rattle.std.specs.Str.{bytes_eq}
use Rattle.td_cdr.specs.declared.order.Order.{Order}
use Rattle.td_cdr.specs.declared.fault.CdrFault.{CdrFault}
use Rattle.td_cdr.specs.Gap.{flag}
use Rattle.td_cdr.specs.Place.{At}
pub use Rattle.td_cdr.specs.Reading.{◌>>=◌}
use Rattle.td_cdr.specs.Reading.{number_at, signed_at, boolean_at, octets_at, string_at, encapsulation_at}
use Rattle.td_cdr.specs.Text.{HasNoNul}
use Rattle.td_cdr.specs.Spelling.{SpellsNumber, SpellsSigned, SpellsBoolean, SpellsOctets, SpellsString, SpellsThen}
use Rattle.td_cdr.specs.Spelling.{SpellsWithin}
use Rattle.td_cdr.specs.Writing.{Draft, written_number, written_octets}

-- bytes in an order, from a place on
abbrev pub Piece : Type 0
Piece = Order → ℕ → List ℕ

abbrev pub none : Piece
none order place = []

-- one after the other
abbrev pub row : List Piece → Piece
row [] order place = []
row (p ∷ ps) order place = p order place ++ row ps order (place + length (p order place))

infixr 5 ◌then◌
abbrev pub ◌then◌ : Piece → Piece → Piece
(p then q) order place = p order place ++ q order (place + length (p order place))

-- the value and where the reader then stands, or the first fault
abbrev pub Read : Type 0 → Type 0 → Type 0
Read F Y = Result (Y × At) F

-- F: the faults, Y: the values
pub record Format (F Y : Type 0) : Type 1 where
  -- the value and where the reader then stands, or the first fault
  pub reads : At → Read F Y
  -- the bytes that spell a value from a place on
  pub spells : Order → ℕ → Y → List ℕ → Type 0
  -- the values that have a spelling
  pub admits : Y → Type 0
  -- the spelling that is written
  pub writes : Y → Piece

-- ---- the primitives

-- an unsigned number of so many bytes
abbrev pub number : ℕ → Format CdrFault ℕ
number size = record {
  reads = number_at size;
  spells = SpellsNumber size;
  admits = λ v. v < 256 ^ size;
  writes = λ v order place. written_number size order place v;
}

-- a signed number of so many bytes, in two's complement
abbrev pub signed : Width → ℕ → Format CdrFault ℤ
signed width size = record {
  reads = signed_at width size;
  spells = SpellsSigned width size;
  admits = λ v. FitsSigned width v;
  writes = λ v order place. written_number size order place (cast_unsigned width v);
}

-- an octet that is 0 or 1
abbrev pub boolean : Format CdrFault Bool
boolean = record {
  reads = boolean_at;
  spells = SpellsBoolean;
  admits = λ v. Unit {0};
  writes = λ v order place. written_number 1 order place (from_bool v);
}

-- octets behind their number
abbrev pub octets : Format CdrFault (List ℕ)
octets = record {
  reads = octets_at;
  spells = SpellsOctets;
  admits = λ v. Unit {0};
  writes = λ v order place. written_octets order place v;
}

-- a string
abbrev pub text : Format CdrFault (List ℕ)
text = record {
  reads = string_at;
  spells = SpellsString;
  admits = λ v. HasNoNul v;
  writes = λ v order place. written_octets order place (v ++ 0 ∷ []);
}

-- ---- ways to build a format

-- the same with the faults of an outer layer
abbrev pub as_fault : {E F Y : Type 0} → (E → F) → Result Y E → Result Y F
as_fault f (Ok x) = Ok x
as_fault f (Err e) = Err (f e)

abbrev pub with_fault : {E F Y : Type 0} → (E → F) → Format E Y → Format F Y
with_fault {Y = Y} f g = record {
  reads = λ a. as_fault f (g.reads a);
  spells = g.spells;
  admits = g.admits;
  writes = g.writes;
}

-- one after another, the second of which may depend on the first
abbrev pub dependent_pair : {F X Y : Type 0} → Format F X → (X → Format F Y) → Format F (X × Y)
dependent_pair {F = F} {X = X} {Y = Y} first second = record {
  reads = λ a. first.reads a >>= λ x. (second x.0).reads x.1 >>= λ y. Ok ((x.0, y.0), y.1);
  spells = SpellsThen first.spells (λ x. (second x).spells);
  admits = λ v. first.admits v.0 × (second v.0).admits v.1;
  writes = λ v. first.writes v.0 then (second v.0).writes v.1;
}

-- one after another
infixr 5 ◌&◌
abbrev pub ◌&◌ : {F X Y : Type 0} → Format F X → Format F Y → Format F (X × Y)
first & second = dependent_pair first (λ _. second)

-- seen as another value, and back
abbrev pub structure_format : {F X Y : Type 0} → (X → Y) → (Y → X) → Format F X → Format F Y
structure_format {F = F} {X = X} {Y = Y} to from g = record {
  reads = λ a. g.reads a >>= λ x. Ok (to x.0, x.1);
  spells = λ order place y b. g.spells order place (from y) b;
  admits = λ y. g.admits (from y);
  writes = λ y. g.writes (from y);
}

-- the values of one variant; from tells its members
abbrev pub none_or : {X : Type 0} → (X → Piece) → Option X → Piece
none_or w (Some x) = w x
none_or w None = none

abbrev pub variant_format : {F X Y : Type 0} → (X → Y) → (Y → Option X) → Format F X → Format F Y
variant_format {F = F} {X = X} {Y = Y} to from g = record {
  reads = λ a. g.reads a >>= λ x. Ok (to x.0, x.1);
  spells = λ order place y b. (x : X) × (to x ≡ y) × g.spells order place x b;
  admits = λ y. (x : X) × (to x ≡ y) × g.admits x;
  writes = λ y. none_or g.writes (from y);
}

-- no bytes at all
abbrev pub constant_format : {F X : Type 0} → X → Format F X
constant_format {F = F} {X = X} x = record {
  reads = λ a. Ok (x, a);
  spells = λ order place y b. (x ≡ y) × (b ≡ []);
  admits = λ y. x ≡ y;
  writes = λ y. none;
}

-- passed over: any value that g spells; x is written
abbrev pub placeholder_format : {F X : Type 0} → X → Format F X → Format F (Unit {0})
placeholder_format {F = F} {X = X} x g = record {
  reads = λ a. g.reads a >>= λ v. Ok (tt, v.1);
  spells = λ order place u b. (v : X) × g.spells order place v b;
  admits = λ u. Unit {0};
  writes = λ u. g.writes x;
}

-- no value
abbrev pub failure_format : {F X : Type 0} → (At → F) → Format F X
failure_format {F = F} {X = X} bad = record {
  reads = λ a. Err (bad a);
  spells = λ order place y b. ⊥;
  admits = λ y. ⊥;
  writes = λ y. none;
}

-- a value of the format that the tag before it chooses
abbrev pub union_format : {F K Y : Type 0} → Format F K → (Y → K) → (K → Format F Y) → Format F Y
union_format {F = F} {K = K} {Y = Y} tag tag_of arm = record {
  reads = λ a. tag.reads a >>= λ k. (arm k.0).reads k.1;
  spells = λ order place y b. SpellsThen tag.spells (λ k. (arm k).spells) order place (tag_of y, y)
      b;
  admits = λ y. tag.admits (tag_of y) × (arm (tag_of y)).admits y;
  writes = λ y. tag.writes (tag_of y) then (arm (tag_of y)).writes y;
}

-- only such values; the fault of another may name where it stands
abbrev pub restriction_format : {F X : Type 0} → (X → Bool) → (X → At → F) → Format F X → Format F X
restriction_format {F = F} {X = X} good bad g = record {
  reads = λ a. g.reads a >>= λ x. if good x.0 then Ok x else Err (bad x.0 a);
  spells = λ order place x b. IsTrue (good x) × g.spells order place x b;
  admits = λ x. IsTrue (good x) × g.admits x;
  writes = g.writes;
}

-- the value that such a one stands for, where there is one; from tells the way back
abbrev pub or_fault : {F Y : Type 0} → Option Y → F → At → Read F Y
or_fault (Some y) e next = Ok (y, next)
or_fault None e next = Err e

abbrev pub partial_format : {F X Y : Type 0} → (X → Option Y) → (Y → X) → (X → At → F) → Format F X
    → Format F Y
partial_format {F = F} {X = X} {Y = Y} to from bad g = record {
  reads = λ a. g.reads a >>= λ x. or_fault (to x.0) (bad x.0 a) x.1;
  spells = λ order place y b. g.spells order place (from y) b;
  admits = λ y. g.admits (from y);
  writes = λ y. g.writes (from y);
}

-- the value at a place of a list, counted from 0
abbrev pub nth : {Y : Type 0} → List Y → ℕ → Option Y
nth [] n = None
nth (y ∷ ys) zero = Some y
nth (y ∷ ys) (suc n) = nth ys n

-- n numbers from k on
abbrev pub upwards : ℕ → ℕ → List ℕ
upwards k zero = []
upwards k (suc n) = k ∷ upwards (suc k) n

-- an enumeration: each value by its place in the list of all
abbrev pub enumeration_format : {F Y : Type 0} → List Y → (Y → ℕ) → (ℕ → At → F) → Format F ℕ
    → Format F Y
enumeration_format ys number_of bad g = partial_format (nth ys) number_of bad g

-- the first of these that has this name
abbrev pub value_named : {K : Type 0} → (K → List ℕ) → List K → List ℕ → Option K
value_named name_of [] name = None
value_named name_of (k ∷ ks) name = if bytes_eq name (name_of k)
    then Some k else value_named name_of ks name

-- inside an encapsulation, in the order of what it stands in
abbrev pub encapsulation_format : {F X : Type 0} → (CdrFault → F) → Format F X → Format F X
encapsulation_format {F = F} {X = X} c g = record {
  reads = λ a. as_fault c (encapsulation_at a) >>= λ e. g.reads e.0 >>= λ v. Ok (v.0, e.1);
  spells = SpellsWithin g.spells;
  admits = g.admits;
  writes = λ v order place. written_octets order place (flag order ∷ g.writes v order 1);
}

abbrev pub uncons : {X : Type 0} → List X → Option (X × List X)
uncons [] = None
uncons (x ∷ xs) = Some (x, xs)

-- so many values
abbrev pub array_format : {F X : Type 0} → Format F X → ℕ → Format F (List X)
array_format g zero = constant_format []
array_format g (suc n) = variant_format (λ p. p.0 ∷ p.1) uncons (g & array_format g n)

-- written otherwise
abbrev pub other_writing : {F X : Type 0} → (X → Piece) → Format F X → Format F X
other_writing w g = record { reads = g.reads; spells = g.spells; admits = g.admits; writes = w }

-- a sequence: values behind their number
abbrev pub sequence_format : {F X : Type 0} → (CdrFault → F) → Format F X → Format F (List X)
sequence_format c g =
    other_writing (λ xs. (number 4).writes (length xs) then row (map g.writes xs))
    (union_format (with_fault c (number 4)) length (array_format g))

-- ---- what a call of a reader or a writer answers

abbrev pub Unless : Bool → Type 0 → Type 0
Unless true P = Unit {0}
Unless false P = P

-- What a call answered, seen by view, is what this comes to; a fault that is running out of memory tells nothing
abbrev pub Computes : {F X Y : Type 0} → (F → Bool) → (X → Y) → Result X F → Result Y F → Type 0
Computes is_memory view (Ok x) comes = comes ≡ Ok (view x)
Computes is_memory view (Err e) comes = Unless (is_memory e) (comes ≡ Err e)

-- What a call answered, seen by view, is what reading gives: for what is lent from the bytes, and takes no memory
abbrev pub Shows : {F X Y : Type 0} → (X → Y) → At → Result X F → Read F Y → Type 0
Shows view new (Ok x) reading = reading ≡ Ok (view x, new)
Shows view new (Err e) reading = reading ≡ Err e

-- What a call answered is what reading gives; a fault that is running out of memory tells nothing
abbrev pub Gives : {F Y : Type 0} → (F → Bool) → At → Result Y F → Read F Y → Type 0
Gives is_memory new (Ok y) reading = reading ≡ Ok (y, new)
Gives is_memory new (Err e) reading = Unless (is_memory e) (reading ≡ Err e)

-- these bytes were appended, where the call did not fail; else some may have been, behind those that were there
pub record Puts {E : Type 0} (piece : Piece) (old new : Draft)
    (result : Result (Unit {0}) E) : Type 0 where
  pub done : OnOk result (new.bytes ≡ old.bytes ++ piece old.order (length old.bytes))
  pub order : new.order ≡ old.order
  pub kept : OnErr result (take (length old.bytes) new.bytes ≡ old.bytes)

-- A whole call answers what the format says, and a value that has a spelling. The reader is unchanged where it refuses.
pub record Reads {F Y : Type 0} (is_memory : F → Bool) (f : Format F Y) (old new : At)
    (result : Result Y F) : Type 0 where
  pub gives : Gives is_memory new result (f.reads old)
  pub unchanged : OnErr result (new ≡ old)
  pub admitted : IfOk result (λ y. f.admits y)

-- these bytes were appended, or none
pub record Appends {E : Type 0} (piece : Piece) (old new : Draft)
    (result : Result (Unit {0}) E) : Type 0 where
  pub done : OnOk result (new.bytes ≡ old.bytes ++ piece old.order (length old.bytes))
  pub order : new.order ≡ old.order
  pub refused : OnErr result (new.bytes ≡ old.bytes)

-- A union's discriminator: its values, which are also the labels of the union's arms.
use Rattle.std.specs.Prelude.{◌≡◌, ℕ, ℤ, zero, suc, nat_lt, nat_eq, Bool, false, length, Option, Some, None}
use Rattle.std.specs.Prelude.{refl}
use Rattle.std.proofs.Common.{ap, subst, sym}
use Rattle.std.specs.Int.{w16, w32, w64, cast_unsigned, from_bool}
use Rattle.td_cdr.specs.declared.order.Order.{Order}
use Rattle.td_cdr.specs.Place.{At}
use Rattle.td_cdr.specs.Reading.{next_aligned}
use Rattle.td_cdr.specs.Format.{Piece, number as a_number}
use Rattle.td_cdr.specs.Sound.{Sound, number, short, long, longlong, boolean, variant, restriction, failure}
use Rattle.td_cdr.specs.Sound.{other_writing}
use Rattle.td_cdr.specs.declared.value_fault.ValueFault.{ValueFault}
use Rattle.td_cdr.specs.declared.value_fault.ValueFault.TheVariants as fault
use Rattle.td_typecode.specs.Layers.{value-short, value-long, value-ushort, value-ulong, value-boolean, value-char}
use Rattle.td_typecode.specs.Layers.{value-octet, value-longlong, value-ulonglong, value-enum}
use Rattle.td_typecode.specs.declared.label.Label.{Label}
use Rattle.td_typecode.specs.declared.label.Label.TheVariants.{One, Two, Four, Eight}
use Rattle.td_typecode.specs.declared.code.TypeCode.{TypeCode, TypeCode-F, out-TypeCode}
use Rattle.td_typecode.specs.declared.code.TypeCode.TheOpen as c
use Rattle.td_typecode.specs.declared.code.TypeCode.TheOpen.{Value-F}
use Rattle.td_typecode.specs.declared.code.Value.{Value, out-Value}
use Rattle.td_typecode.specs.declared.code.Value.TheVariants as value
use Rattle.td_typecode.specs.declared.code.Arm.{Arm}
use Rattle.td_typecode.specs.declared.code.Any.{Any}
use Rattle.td_typecode.specs.declared.code.Member.{Member}

-- one layer of a TypeCode
abbrev pub Layer : Type 0
Layer = TypeCode-F TypeCode Value Any Arm Member

-- one layer of a value
abbrev pub ValueLayer : Type 0
ValueLayer = Value-F TypeCode Value Any Arm Member

-- ---- the number that spells a plain value, and so a label

-- any other value is seen as the octet 0
abbrev pub label_of_layer : {T V A R M : Type 0} → Value-F T V A R M → Label
label_of_layer (c.Value::Short z) = Two (cast_unsigned w16 z)
label_of_layer (c.Value::Long z) = Four (cast_unsigned w32 z)
label_of_layer (c.Value::UShort n) = Two n
label_of_layer (c.Value::ULong n) = Four n
label_of_layer (c.Value::LongLong z) = Eight (cast_unsigned w64 z)
label_of_layer (c.Value::ULongLong n) = Eight n
label_of_layer (c.Value::Boolean b) = One (from_bool b)
label_of_layer (c.Value::Char n) = One n
label_of_layer (c.Value::Octet n) = One n
label_of_layer (c.Value::Enum n) = Four n
label_of_layer l = One 0

abbrev pub label_of : Value → Label
label_of v = label_of_layer (out-Value v)

abbrev pub same_label : Label → Label → Bool
same_label (One a) (One b) = nat_eq a b
same_label (Two a) (Two b) = nat_eq a b
same_label (Four a) (Four b) = nat_eq a b
same_label (Eight a) (Eight b) = nat_eq a b
same_label a b = false

abbrev pub label_piece : Label → Piece
label_piece (One n) = (a_number 1).writes n
label_piece (Two n) = (a_number 2).writes n
label_piece (Four n) = (a_number 4).writes n
label_piece (Eight n) = (a_number 8).writes n

-- how a plain value is written
abbrev pub plain_piece : Value → Piece
plain_piece v = label_piece (label_of v)

-- ---- plain values

abbrev pub plain_layer : ValueLayer → Piece
plain_layer l = label_piece (label_of_layer l)

-- the values of one kind: what each is made of, which is spelled as the value's label is
module _ {A : Type 0} (make : A → Value) (inside : ValueLayer → Option A)
    (kept : (x : A) → inside (out-Value (make x)) ≡ Some x) (part : Sound ValueFault A)
    (alike : (x : A) → plain_layer (out-Value (make x)) ≡ part.format.writes x) where
  abbrev made : Sound ValueFault Value
  made = variant make (λ v. inside (out-Value v)) kept part

  pub made-plain : (v : Value) (order : Order) (place : ℕ) → made.format.admits v
      → made.format.writes v order place ≡ plain_piece v order place
  made-plain v order place ok =
      subst (λ (v : Value). made.format.writes v order place ≡ plain_piece v order place) ok.1
      (rw (kept ok.0) (sym (ap (λ (p : Piece). p order place) (alike ok.0))))

  abbrev pub plain_value : Sound ValueFault Value
  plain_value = other_writing plain_piece made made-plain

abbrev pub short_in : ValueLayer → Option ℤ
short_in (c.Value::Short x) = Some x
short_in l = None

abbrev pub short_value : Sound ValueFault Value
short_value =
    plain_value (λ x. value.Short x) short_in (λ x. ap short_in (value-short x)) short
    (λ x. ap plain_layer (value-short x))

abbrev pub long_in : ValueLayer → Option ℤ
long_in (c.Value::Long x) = Some x
long_in l = None

abbrev pub long_value : Sound ValueFault Value
long_value =
    plain_value (λ x. value.Long x) long_in (λ x. ap long_in (value-long x)) long
    (λ x. ap plain_layer (value-long x))

abbrev pub ushort_in : ValueLayer → Option ℕ
ushort_in (c.Value::UShort x) = Some x
ushort_in l = None

abbrev pub ushort_value : Sound ValueFault Value
ushort_value =
    plain_value (λ x. value.UShort x) ushort_in (λ x. ap ushort_in (value-ushort x)) (number 2)
    (λ x. ap plain_layer (value-ushort x))

abbrev pub ulong_in : ValueLayer → Option ℕ
ulong_in (c.Value::ULong x) = Some x
ulong_in l = None

abbrev pub ulong_value : Sound ValueFault Value
ulong_value =
    plain_value (λ x. value.ULong x) ulong_in (λ x. ap ulong_in (value-ulong x)) (number 4)
    (λ x. ap plain_layer (value-ulong x))

abbrev pub longlong_in : ValueLayer → Option ℤ
longlong_in (c.Value::LongLong x) = Some x
longlong_in l = None

abbrev pub longlong_value : Sound ValueFault Value
longlong_value =
    plain_value (λ x. value.LongLong x) longlong_in (λ x. ap longlong_in (value-longlong x))
    longlong (λ x. ap plain_layer (value-longlong x))

abbrev pub ulonglong_in : ValueLayer → Option ℕ
ulonglong_in (c.Value::ULongLong x) = Some x
ulonglong_in l = None

abbrev pub ulonglong_value : Sound ValueFault Value
ulonglong_value =
    plain_value (λ x. value.ULongLong x) ulonglong_in (λ x. ap ulonglong_in (value-ulonglong x))
    (number 8) (λ x. ap plain_layer (value-ulonglong x))

abbrev pub boolean_in : ValueLayer → Option Bool
boolean_in (c.Value::Boolean x) = Some x
boolean_in l = None

abbrev pub boolean_value : Sound ValueFault Value
boolean_value =
    plain_value (λ x. value.Boolean x) boolean_in (λ x. ap boolean_in (value-boolean x)) boolean
    (λ x. ap plain_layer (value-boolean x))

abbrev pub char_in : ValueLayer → Option ℕ
char_in (c.Value::Char x) = Some x
char_in l = None

abbrev pub char_value : Sound ValueFault Value
char_value =
    plain_value (λ x. value.Char x) char_in (λ x. ap char_in (value-char x)) (number 1)
    (λ x. ap plain_layer (value-char x))

abbrev pub octet_in : ValueLayer → Option ℕ
octet_in (c.Value::Octet x) = Some x
octet_in l = None

abbrev pub octet_value : Sound ValueFault Value
octet_value =
    plain_value (λ x. value.Octet x) octet_in (λ x. ap octet_in (value-octet x)) (number 1)
    (λ x. ap plain_layer (value-octet x))

-- the fault of a number of four bytes that may not stand there
abbrev pub no_value : At → ValueFault
no_value a = fault.BadValue (next_aligned 4 a)

abbrev pub bad_value : {X : Type 0} → X → At → ValueFault
bad_value x a = no_value a

abbrev pub enum_in : ValueLayer → Option ℕ
enum_in (c.Value::Enum n) = Some n
enum_in l = None

-- a number below the count of an enumeration's names
abbrev pub one_of : ℕ → Sound ValueFault Value
one_of count =
    plain_value (λ n. value.Enum n) enum_in (λ n. ap enum_in (value-enum n))
    (restriction (λ n. nat_lt n count) bad_value (number 4)) (λ n. ap plain_layer (value-enum n))

-- ---- a union's discriminator

-- no value at all
abbrev pub no_label : Sound ValueFault Value
no_label = other_writing plain_piece (failure no_value) (λ v order place ok. absurd ok)

-- whatever stands for the TypeCodes in a layer
abbrev pub label_layer : {T V A R M : Type 0} → (T → Sound ValueFault Value) → TypeCode-F T V A R M
    → Sound ValueFault Value
label_layer inner c.TypeCode::Short = short_value
label_layer inner c.TypeCode::Long = long_value
label_layer inner c.TypeCode::UShort = ushort_value
label_layer inner c.TypeCode::ULong = ulong_value
label_layer inner c.TypeCode::LongLong = longlong_value
label_layer inner c.TypeCode::ULongLong = ulonglong_value
label_layer inner c.TypeCode::Boolean = boolean_value
label_layer inner c.TypeCode::Char = char_value
label_layer inner (c.TypeCode::Enum id name names) = one_of (length names)
label_layer inner (c.Alias id name item) = inner item
label_layer inner l = no_label

pub label_layer-plain : {T V A R M : Type 0} (inner : T → Sound ValueFault Value)
    → ((t : T) (v : Value) (order : Order) (place : ℕ) → (inner t).format.admits v
    → (inner t).format.writes v order place ≡ plain_piece v order place)
    → (l : TypeCode-F T V A R M) (v : Value) (order : Order) (place : ℕ)
    → (label_layer inner l).format.admits v
    → (label_layer inner l).format.writes v order place ≡ plain_piece v order place
label_layer-plain inner j c.TypeCode::Short v order place ok = refl
label_layer-plain inner j c.TypeCode::Long v order place ok = refl
label_layer-plain inner j c.TypeCode::UShort v order place ok = refl
label_layer-plain inner j c.TypeCode::ULong v order place ok = refl
label_layer-plain inner j c.TypeCode::LongLong v order place ok = refl
label_layer-plain inner j c.TypeCode::ULongLong v order place ok = refl
label_layer-plain inner j c.TypeCode::Boolean v order place ok = refl
label_layer-plain inner j c.TypeCode::Char v order place ok = refl
label_layer-plain inner j (c.TypeCode::Enum id name names) v order place ok = refl
label_layer-plain inner j (c.Alias id name item) v order place ok = j item v order place ok
label_layer-plain inner j l v order place ok = absurd ok

-- a discriminator under a TypeCode of at most so many levels, before it is known how it is written
unfoldable pub spelled_labels : ℕ → TypeCode → Sound ValueFault Value
spelled_labels zero code = no_label
spelled_labels (suc n) code = label_layer (spelled_labels n) (out-TypeCode code)

pub labels-plain : (n : ℕ) (t : TypeCode) (v : Value) (order : Order) (place : ℕ)
    → (spelled_labels n t).format.admits v
    → (spelled_labels n t).format.writes v order place ≡ plain_piece v order place
unfolding spelled_labels
labels-plain zero t v order place ok = absurd ok
labels-plain (suc n) t v order place ok =
    label_layer-plain (spelled_labels n) (labels-plain n) (out-TypeCode t) v order place ok

-- a discriminator under a TypeCode of at most so many levels
abbrev pub labels : ℕ → TypeCode → Sound ValueFault Value
labels n t = other_writing plain_piece (spelled_labels n t) (labels-plain n t)

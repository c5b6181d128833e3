-- The kinds of TypeCodes that have no parameters.
use Rattle.std.proofs.Common.{◌≡◌, ℕ, ℤ, Bool, true, false, List, refl, sym, ap, ◌∙◌, true≢false}
use Rattle.std.proofs.Common.{arith}
use Rattle.td_cdr.specs.declared.value_fault.ValueFault.{ValueFault}
use Rattle.td_cdr.specs.Sound.{Sound}
use Rattle.tc_graph.specs.declared.node.Node.{Node}
use Rattle.td_typecode.specs.declared.code.TypeCode.{TypeCode, out-TypeCode}
use Rattle.td_typecode.specs.declared.code.TypeCode.{roll-TypeCode, roll-out-TypeCode}
use Rattle.td_typecode.specs.declared.code.TypeCode.TheVariants as code
use Rattle.td_typecode.specs.declared.code.TypeCode.TheOpen as c
use Rattle.td_typecode.specs.declared.code.Value.{Value}
use Rattle.td_typecode.specs.declared.code.Any.{Any}
use Rattle.td_typecode.specs.declared.code.Arm.{Arm}
use Rattle.td_typecode.specs.declared.code.Member.{Member}
use Rattle.td_typecode.specs.Labels.{Layer, plain_piece, labels, spelled_labels, label_layer}
use Rattle.td_cdr.specs.Place.{At}
use Rattle.td_typecode.specs.Values.{layer}
use Rattle.td_typecode.specs.Codes.{kind_of}
use Rattle.td_typecode.specs.WritingCodes.{kind_of_layer, kind_piece, code_piece, code_layer, layer_pieces}
use Rattle.td_typecode.proofs.AtLayers.{code_piece-at, labels-reads}

pub rolled : (t : TypeCode) (l : Layer) → out-TypeCode t ≡ l → t ≡ roll-TypeCode l
rolled t l is = sym (roll-out-TypeCode t) ∙ ap roll-TypeCode is

-- ---- the kinds without parameters, and enumerations

abbrev pub is_bare : Layer → Bool
is_bare (c.TypeCode::ObjRef id name) = false
is_bare (c.TypeCode::Struct id name members) = false
is_bare (c.TypeCode::Union id name switch default arms) = false
is_bare (c.TypeCode::Str bound) = false
is_bare (c.Sequence item bound) = false
is_bare (c.Array item len) = false
is_bare (c.Alias id name item) = false
is_bare (c.Except id name members) = false
is_bare (c.Linked graph) = false
is_bare l = true

-- X holds where t is none of the first four kinds that have parameters
abbrev UnlessFirst : TypeCode → Type 0 → Type 0
UnlessFirst t X =
    ((bound : ℕ) → t ≡ code.Str bound → ⊥)
    → ((id name : List ℕ) → t ≡ code.ObjRef id name → ⊥)
    → ((id name : List ℕ) (members : List Member) → t ≡ code.Struct id name members → ⊥)
    → ((id name : List ℕ) (switch : TypeCode) (default : ℤ) (arms : List Arm)
    → t ≡ code.Union id name switch default arms → ⊥)
    → X

-- and where it is none of those behind an enumeration
abbrev UnlessLast : TypeCode → Type 0 → Type 0
UnlessLast t X =
    ((item : TypeCode) (bound : ℕ) → t ≡ code.Sequence item bound → ⊥)
    → ((item : TypeCode) (len : ℕ) → t ≡ code.Array item len → ⊥)
    → ((id name : List ℕ) (item : TypeCode) → t ≡ code.Alias id name item → ⊥)
    → ((id name : List ℕ) (members : List Member) → t ≡ code.Except id name members → ⊥)
    → ((graph : List Node) → t ≡ code.Linked graph → ⊥)
    → X

bare-at : (t : TypeCode) (l : Layer) → out-TypeCode t ≡ l → UnlessFirst t (UnlessLast t (is_bare l ≡ true))
bare-at t (c.TypeCode::Str bound) is n0 n1 n2 n3 n4 n5 n6 n7 n8 =
    absurd (n0 bound (rolled t (c.TypeCode::Str bound) is ∙ code.rolls-Str bound))
bare-at t (c.TypeCode::ObjRef id name) is n0 n1 n2 n3 n4 n5 n6 n7 n8 =
    absurd (n1 id name (rolled t (c.TypeCode::ObjRef id name) is ∙ code.rolls-ObjRef id name))
bare-at t (c.TypeCode::Struct id name members) is n0 n1 n2 n3 n4 n5 n6 n7 n8 =
    absurd (n2 id name members (rolled t (c.TypeCode::Struct id name members) is ∙ code.rolls-Struct id name members))
bare-at t (c.TypeCode::Union id name switch default arms) is n0 n1 n2 n3 n4 n5 n6 n7 n8 =
    absurd (n3 id name switch default arms
    (rolled t (c.TypeCode::Union id name switch default arms) is ∙ code.rolls-Union id name switch default arms))
bare-at t (c.Sequence item bound) is n0 n1 n2 n3 n4 n5 n6 n7 n8 =
    absurd (n4 item bound (rolled t (c.Sequence item bound) is ∙ code.rolls-Sequence item bound))
bare-at t (c.Array item len) is n0 n1 n2 n3 n4 n5 n6 n7 n8 =
    absurd (n5 item len (rolled t (c.Array item len) is ∙ code.rolls-Array item len))
bare-at t (c.Alias id name item) is n0 n1 n2 n3 n4 n5 n6 n7 n8 =
    absurd (n6 id name item (rolled t (c.Alias id name item) is ∙ code.rolls-Alias id name item))
bare-at t (c.Except id name members) is n0 n1 n2 n3 n4 n5 n6 n7 n8 =
    absurd (n7 id name members (rolled t (c.Except id name members) is ∙ code.rolls-Except id name members))
bare-at t (c.Linked graph) is n0 n1 n2 n3 n4 n5 n6 n7 n8 =
    absurd (n8 graph (rolled t (c.Linked graph) is ∙ code.rolls-Linked graph))
bare-at t l is n0 n1 n2 n3 n4 n5 n6 n7 n8 = refl

-- ---- the kinds without parameters

abbrev pub is_plain : Layer → Bool
is_plain (c.TypeCode::Enum id name names) = false
is_plain l = is_bare l

plain-at : (t : TypeCode) (l : Layer) → out-TypeCode t ≡ l
    → ((id name : List ℕ) (names : List (List ℕ)) → t ≡ code.Enum id name names → ⊥)
    → is_bare l ≡ true → is_plain l ≡ true
plain-at t (c.TypeCode::Enum id name names) is other bare =
    absurd (other id name names (rolled t (c.TypeCode::Enum id name names) is ∙ code.rolls-Enum id name names))
plain-at t l is other bare = bare

-- a TypeCode that is none of the others is one
pub plain-else : (t : TypeCode)
    → UnlessFirst t (((id name : List ℕ) (names : List (List ℕ)) → t ≡ code.Enum id name names → ⊥)
    → UnlessLast t (is_plain (out-TypeCode t) ≡ true))
plain-else t n0 n1 n2 n3 enum n4 n5 n6 n7 n8 =
    plain-at t (out-TypeCode t) refl enum (bare-at t (out-TypeCode t) refl n0 n1 n2 n3 n4 n5 n6 n7 n8)

-- what is written for one
plain-pieces : (l : Layer) → is_plain l ≡ true → code_layer (layer_pieces l) ≡ kind_piece (kind_of_layer l)
plain-pieces (c.TypeCode::ObjRef id name) p = absurd (true≢false (sym p))
plain-pieces (c.TypeCode::Struct id name members) p = absurd (true≢false (sym p))
plain-pieces (c.TypeCode::Union id name switch default arms) p = absurd (true≢false (sym p))
plain-pieces (c.TypeCode::Enum id name names) p = absurd (true≢false (sym p))
plain-pieces (c.TypeCode::Str bound) p = absurd (true≢false (sym p))
plain-pieces (c.Sequence item bound) p = absurd (true≢false (sym p))
plain-pieces (c.Array item len) p = absurd (true≢false (sym p))
plain-pieces (c.Alias id name item) p = absurd (true≢false (sym p))
plain-pieces (c.Except id name members) p = absurd (true≢false (sym p))
plain-pieces (c.Linked graph) p = absurd (true≢false (sym p))
plain-pieces l p = refl

pub plain-piece : (t : TypeCode) → is_plain (out-TypeCode t) ≡ true → code_piece t ≡ kind_piece (kind_of t)
plain-piece t p = code_piece-at t (out-TypeCode t) refl ∙ plain-pieces (out-TypeCode t) p

-- ---- the kinds whose values are numbers

abbrev pub is_number : Layer → Bool
is_number c.Null = false
is_number c.Void = false
is_number c.AnyCode = false
is_number c.TypeCode::Code = false
is_number l = is_bare l

number-at : (t : TypeCode) (l : Layer) → out-TypeCode t ≡ l
    → (t ≡ code.Null → ⊥) → (t ≡ code.Void → ⊥) → (t ≡ code.AnyCode → ⊥) → (t ≡ code.Code → ⊥)
    → is_bare l ≡ true → is_number l ≡ true
number-at t c.Null is m0 m1 m2 m3 bare = absurd (m0 (rolled t c.Null is ∙ code.rolls-Null))
number-at t c.Void is m0 m1 m2 m3 bare = absurd (m1 (rolled t c.Void is ∙ code.rolls-Void))
number-at t c.AnyCode is m0 m1 m2 m3 bare = absurd (m2 (rolled t c.AnyCode is ∙ code.rolls-AnyCode))
number-at t c.TypeCode::Code is m0 m1 m2 m3 bare = absurd (m3 (rolled t c.TypeCode::Code is ∙ code.rolls-Code))
number-at t l is m0 m1 m2 m3 bare = bare

pub number-else : (t : TypeCode)
    → (t ≡ code.Null → ⊥) → (t ≡ code.Void → ⊥) → (t ≡ code.AnyCode → ⊥) → (t ≡ code.Code → ⊥)
    → UnlessFirst t (UnlessLast t (is_number (out-TypeCode t) ≡ true))
number-else t m0 m1 m2 m3 n0 n1 n2 n3 n4 n5 n6 n7 n8 =
    number-at t (out-TypeCode t) refl m0 m1 m2 m3 (bare-at t (out-TypeCode t) refl n0 n1 n2 n3 n4 n5 n6 n7 n8)

-- ---- the kinds whose values are read as those of a discriminator

abbrev pub is_label : Layer → Bool
is_label c.TypeCode::Octet = false
is_label l = is_number l

label-at : (t : TypeCode) (l : Layer) → out-TypeCode t ≡ l → (t ≡ code.Octet → ⊥) → is_number l ≡ true
    → is_label l ≡ true
label-at t c.TypeCode::Octet is other number = absurd (other (rolled t c.TypeCode::Octet is ∙ code.rolls-Octet))
label-at t l is other number = number

pub label-else : (t : TypeCode)
    → (t ≡ code.Null → ⊥) → (t ≡ code.Void → ⊥) → (t ≡ code.AnyCode → ⊥)
    → (t ≡ code.Code → ⊥) → (t ≡ code.Octet → ⊥)
    → UnlessFirst t (UnlessLast t (is_label (out-TypeCode t) ≡ true))
label-else t m0 m1 m2 m3 m4 n0 n1 n2 n3 n4 n5 n6 n7 n8 =
    label-at t (out-TypeCode t) refl m4 (number-else t m0 m1 m2 m3 n0 n1 n2 n3 n4 n5 n6 n7 n8)

-- ---- what is written and read for a value of these kinds

one : ◌≡◌ {A = ℕ} 1 0 → ⊥
one e = let no_one : ⊥ = omega arith in no_one

module _ (any : Sound ValueFault Any) (code : Sound ValueFault TypeCode) (inner : TypeCode → Sound ValueFault Value)
    (graphs : List Node → Sound ValueFault Value) (n : ℕ) where
  pub number-piece : (l : Layer) (v : Value) → is_number l ≡ true
      → (layer any code inner graphs n l).format.writes v ≡ plain_piece v
  number-piece c.TypeCode::Short v is = refl
  number-piece c.TypeCode::Long v is = refl
  number-piece c.TypeCode::UShort v is = refl
  number-piece c.TypeCode::ULong v is = refl
  number-piece c.TypeCode::Boolean v is = refl
  number-piece c.TypeCode::Char v is = refl
  number-piece c.TypeCode::Octet v is = refl
  number-piece c.TypeCode::LongLong v is = refl
  number-piece c.TypeCode::ULongLong v is = refl
  number-piece (c.TypeCode::Enum id name names) v is = refl
  number-piece l v is = absurd (true≢false (sym is))

  label-layers : (inside : TypeCode → Sound ValueFault Value) (l : Layer) → is_label l ≡ true → (a : At)
      → (layer any code inner graphs n l).format.reads a ≡ (label_layer inside l).format.reads a
  label-layers inside c.TypeCode::Short is a = refl
  label-layers inside c.TypeCode::Long is a = refl
  label-layers inside c.TypeCode::UShort is a = refl
  label-layers inside c.TypeCode::ULong is a = refl
  label-layers inside c.TypeCode::Boolean is a = refl
  label-layers inside c.TypeCode::Char is a = refl
  label-layers inside c.TypeCode::LongLong is a = refl
  label-layers inside c.TypeCode::ULongLong is a = refl
  label-layers inside (c.TypeCode::Enum id name names) is a = refl
  label-layers inside l is a = absurd (true≢false (sym is))

  pub label-reads : (t : TypeCode) → is_label (out-TypeCode t) ≡ true → (a : At)
      → (layer any code inner graphs n (out-TypeCode t)).format.reads a ≡ (labels 1 t).format.reads a
  label-reads t ok a =
      label-layers (spelled_labels 0) (out-TypeCode t) ok a ∙ sym (labels-reads 1 t (out-TypeCode t) one refl a)

-- How a TypeCode is written: this is told without levels, by the TypeCode alone.
use Rattle.std.specs.Prelude.{◌≡◌, ℕ, ℤ, List, length, map, Result, OnOk, refl}
use Rattle.std.proofs.Common.{ap, ◌∙◌}
use Rattle.std.specs.Int.{w32, cast_unsigned}
use Rattle.td_cdr.specs.Format.{Piece, none, ◌then◌, row, number, text}
use Rattle.td_cdr.specs.Gap.{flag}
use Rattle.td_cdr.specs.Writing.{Draft, written_octets}
use Rattle.std.specs.Prelude.{◌∷◌, ◌++◌}
use Rattle.td_typecode.specs.declared.label.Label.{Label}
use Rattle.td_typecode.specs.declared.kinds.CodeKind.{CodeKind}
use Rattle.td_typecode.specs.declared.kinds.CodeKind.TheVariants as kind
use Rattle.td_typecode.specs.declared.code.TypeCode.{TypeCode, fold-TypeCode, fold_out-TypeCode, map-TypeCode}
use Rattle.td_typecode.specs.declared.code.TypeCode.{TypeCode-F}
use Rattle.td_typecode.specs.declared.code.TypeCode.{out-TypeCode}
use Rattle.td_typecode.specs.declared.code.TypeCode.TheOpen as c
use Rattle.td_typecode.specs.declared.code.TypeCode.TheOpen.{Arm-F, Member-F}
use Rattle.td_typecode.specs.declared.code.Value.{Value, fold-Value, fold_out-Value, map-Value, out-Value}
use Rattle.td_typecode.specs.declared.code.Any.{Any, fold-Any}
use Rattle.td_typecode.specs.declared.code.Arm.{Arm, fold-Arm, fold-roll-Arm}
use Rattle.td_typecode.specs.declared.code.Member.{Member, fold-Member, fold-roll-Member}
use Rattle.td_typecode.specs.Kinds.{number_of}
use Rattle.td_typecode.specs.Labels.{Layer, ValueLayer, label_of, label_of_layer, label_piece}

-- an encapsulation, in the order of what it stands in
abbrev pub encapsulation_piece : Piece → Piece
encapsulation_piece inner order place = written_octets order place (flag order ∷ inner order 1)

-- a graph has no kind of its own: null stands for it, and no format of TypeCodes admits it
abbrev pub kind_of_layer : {T V A R M : Type 0} → TypeCode-F T V A R M → CodeKind
kind_of_layer c.Null = kind.Null
kind_of_layer c.Void = kind.Void
kind_of_layer c.TypeCode::Short = kind.Short
kind_of_layer c.TypeCode::Long = kind.Long
kind_of_layer c.TypeCode::UShort = kind.UShort
kind_of_layer c.TypeCode::ULong = kind.ULong
kind_of_layer c.TypeCode::Boolean = kind.Boolean
kind_of_layer c.TypeCode::Char = kind.Char
kind_of_layer c.TypeCode::Octet = kind.Octet
kind_of_layer c.AnyCode = kind.AnyCode
kind_of_layer c.TypeCode::Code = kind.Code
kind_of_layer (c.TypeCode::ObjRef id name) = kind.ObjRef
kind_of_layer (c.TypeCode::Struct id name members) = kind.Struct
kind_of_layer (c.TypeCode::Union id name switch default arms) = kind.Union
kind_of_layer (c.TypeCode::Enum id name names) = kind.Enum
kind_of_layer (c.TypeCode::Str bound) = kind.Str
kind_of_layer (c.Sequence item bound) = kind.Sequence
kind_of_layer (c.Array item len) = kind.Array
kind_of_layer (c.Alias id name item) = kind.Alias
kind_of_layer (c.Except id name members) = kind.Except
kind_of_layer c.TypeCode::LongLong = kind.LongLong
kind_of_layer c.TypeCode::ULongLong = kind.ULongLong
kind_of_layer (c.Linked graph) = kind.Null

-- a default index and a count
abbrev pub head_piece : ℤ → ℕ → Piece
head_piece default count = (number 4).writes (cast_unsigned w32 default)
    then (number 4).writes count

-- a kind by its number
abbrev pub kind_piece : CodeKind → Piece
kind_piece k = (number 4).writes (number_of k)

-- the repository id and the name
abbrev pub header_piece : List ℕ → List ℕ → Piece
header_piece id name = text.writes id then text.writes name

abbrev pub code_layer : TypeCode-F Piece Label Piece Piece Piece → Piece
code_layer c.Null = kind_piece kind.Null
code_layer c.Void = kind_piece kind.Void
code_layer c.TypeCode::Short = kind_piece kind.Short
code_layer c.TypeCode::Long = kind_piece kind.Long
code_layer c.TypeCode::UShort = kind_piece kind.UShort
code_layer c.TypeCode::ULong = kind_piece kind.ULong
code_layer c.TypeCode::Boolean = kind_piece kind.Boolean
code_layer c.TypeCode::Char = kind_piece kind.Char
code_layer c.TypeCode::Octet = kind_piece kind.Octet
code_layer c.AnyCode = kind_piece kind.AnyCode
code_layer c.TypeCode::Code = kind_piece kind.Code
code_layer (c.TypeCode::ObjRef id name) = kind_piece kind.ObjRef then encapsulation_piece
    (header_piece id name)
code_layer (c.TypeCode::Struct id name members) =
    kind_piece kind.Struct then encapsulation_piece
    (header_piece id name then (number 4).writes (length members) then row members)
code_layer (c.TypeCode::Union id name switch default arms) =
    kind_piece kind.Union then encapsulation_piece
    ((header_piece id name then switch) then (head_piece default (length arms) then row arms))
code_layer (c.TypeCode::Enum id name names) =
    kind_piece kind.Enum then encapsulation_piece
    (header_piece id name then (number 4).writes (length names) then row (map text.writes names))
code_layer (c.TypeCode::Str bound) = kind_piece kind.Str then (number 4).writes bound
code_layer (c.Sequence item bound) =
    kind_piece kind.Sequence then encapsulation_piece (item then (number 4).writes bound)
code_layer (c.Array item len) = kind_piece kind.Array then encapsulation_piece
    (item then (number 4).writes len)
code_layer (c.Alias id name item) = kind_piece kind.Alias then encapsulation_piece
    (header_piece id name then item)
code_layer (c.Except id name members) =
    kind_piece kind.Except then encapsulation_piece
    (header_piece id name then (number 4).writes (length members) then row members)
code_layer c.TypeCode::LongLong = kind_piece kind.LongLong
code_layer c.TypeCode::ULongLong = kind_piece kind.ULongLong
code_layer (c.Linked graph) = none

abbrev pub arm_layer : Arm-F Piece Label Piece Piece Piece → Piece
arm_layer a = label_piece a.label then text.writes a.name then a.code

abbrev pub member_layer : Member-F Piece Label Piece Piece Piece → Piece
member_layer m = text.writes m.name then m.code

abbrev pub code_piece : TypeCode → Piece
code_piece = fold-TypeCode Piece Label Piece Piece Piece code_layer label_of_layer (λ a. none)
    arm_layer member_layer

abbrev pub arm_piece : Arm → Piece
arm_piece = fold-Arm Piece Label Piece Piece Piece code_layer label_of_layer (λ a. none)
    arm_layer member_layer

abbrev pub member_piece : Member → Piece
member_piece = fold-Member Piece Label Piece Piece Piece code_layer label_of_layer (λ a. none)
    arm_layer member_layer

-- the label of a value, as the fold above comes by it
abbrev pub folded_label : Value → Label
folded_label = fold-Value Piece Label Piece Piece Piece code_layer label_of_layer (λ a. none)
    arm_layer member_layer

-- one layer with what is written for each part of it
abbrev pub layer_pieces : Layer → TypeCode-F Piece Label Piece Piece Piece
layer_pieces =
    map-TypeCode TypeCode Value Any Arm Member Piece Label Piece Piece Piece code_piece folded_label
    (fold-Any Piece Label Piece Piece Piece code_layer label_of_layer (λ a. none)
    arm_layer member_layer) arm_piece member_piece

pub code_piece-layer : (t : TypeCode) → code_piece t ≡ code_layer (layer_pieces (out-TypeCode t))
code_piece-layer t =
    fold_out-TypeCode Piece Label Piece Piece Piece code_layer label_of_layer (λ a. none)
    arm_layer member_layer t

pub member_piece-is : (m : Member) → member_piece m ≡ text.writes m.name then code_piece m.code
member_piece-is m =
    fold-roll-Member Piece Label Piece Piece Piece code_layer label_of_layer (λ a. none)
    arm_layer member_layer (record { name = m.name; code = m.code })

layer_label : (l : ValueLayer) → label_of_layer
    (map-Value TypeCode Value Any Arm Member Piece Label Piece Piece Piece code_piece folded_label
    (fold-Any Piece Label Piece Piece Piece code_layer label_of_layer (λ a. none)
    arm_layer member_layer) arm_piece member_piece l)
    ≡ label_of_layer l
layer_label c.Empty = refl
layer_label (c.Value::Short z) = refl
layer_label (c.Value::Long z) = refl
layer_label (c.Value::UShort n) = refl
layer_label (c.Value::ULong n) = refl
layer_label (c.Value::Boolean b) = refl
layer_label (c.Value::Char n) = refl
layer_label (c.Value::Octet n) = refl
layer_label (c.Value::LongLong z) = refl
layer_label (c.Value::ULongLong n) = refl
layer_label (c.Value::Str t) = refl
layer_label (c.AnyValue a) = refl
layer_label (c.Value::Code t) = refl
layer_label (c.Value::ObjRef r) = refl
layer_label (c.Value::Struct vs) = refl
layer_label (c.Value::Union label arm) = refl
layer_label (c.Value::Enum n) = refl
layer_label (c.Items vs) = refl

folded_label-is : (v : Value) → folded_label v ≡ label_of v
folded_label-is v =
    fold_out-Value Piece Label Piece Piece Piece code_layer label_of_layer (λ a. none)
    arm_layer member_layer v
    ∙ layer_label (out-Value v)

pub arm_piece-is : (a : Arm)
    → arm_piece a ≡ label_piece (label_of a.label) then text.writes a.name then code_piece a.code
arm_piece-is a =
    fold-roll-Arm Piece Label Piece Piece Piece code_layer label_of_layer (λ a. none)
    arm_layer member_layer (record { label = a.label; name = a.name; code = a.code })
    ∙ ap (λ (l : Label). label_piece l then text.writes a.name then code_piece a.code)
    (folded_label-is a.label)

-- these bytes were appended, where the call did not fail; else some may have been
pub record WritesCode {E : Type 0} (piece : Piece) (old new : Draft)
    (result : Result (Unit {0}) E) : Type 0 where
  pub done : OnOk result (new.bytes ≡ old.bytes ++ piece old.order (length old.bytes))
  pub order : new.order ≡ old.order

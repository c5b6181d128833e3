-- The format of values under one layer of a TypeCode (CORBA's chapter on the General Inter-ORB Protocol, "CDR Transfer
-- Syntax", on constructed types), whatever stands for the TypeCodes in that layer: TypeCodes, or places of a graph.
use Rattle.std.specs.Prelude.{◌≡◌, ℕ, ℤ, pos, negsuc, ◌+◌, nat_eq, nat_lt, Bool, false, not, ◌&&◌, ◌||◌}
use Rattle.std.specs.Prelude.{if◌then◌else◌, List, [], ◌∷◌, ◌++◌, length, map, Option, Some, None, slice_get, refl}
use Rattle.std.proofs.Common.{sym, ap, subst, ◌∙◌}
use Rattle.td_cdr.specs.declared.order.Order.{Order}
use Rattle.td_cdr.specs.Format.{Piece, none, none_or, number, row, ◌then◌, uncons, array_format}
use Rattle.td_cdr.specs.Sound.{Sound, FormatArm as Arm_of, ◌&◌, variant, constant, ulong, text, array}
use Rattle.td_cdr.specs.Sound.{restriction, failure, union, other_writing, sequence_with, arm, bare_arm}
use Rattle.td_cdr.specs.LawfulFormats.{times-row}
use Rattle.td_cdr.specs.declared.value_fault.ValueFault.{ValueFault}
use Rattle.td_cdr.specs.declared.value_fault.ValueFault.TheVariants as fault
use Rattle.tc_graph.specs.declared.node.Node.{Node}
use Rattle.td_typecode.specs.declared.code.TypeCode.{TypeCode, TypeCode-F}
use Rattle.td_typecode.specs.declared.code.TypeCode.TheOpen as c
use Rattle.td_typecode.specs.declared.code.Value.{Value, out-Value}
use Rattle.td_typecode.specs.declared.code.Value.TheVariants as value
use Rattle.td_typecode.specs.declared.code.Any.{Any}
use Rattle.td_typecode.specs.declared.reference.Ior.{Ior}
use Rattle.td_typecode.specs.declared.kinds.CodeKind.TheVariants as kind
use Rattle.td_typecode.specs.Formats.{array-size}
use Rattle.td_typecode.specs.Kinds.{number_of}
use Rattle.td_typecode.specs.Labels.{ValueLayer, bad_value, one_of, plain_piece}
use Rattle.td_typecode.specs.Labels.{short_value, long_value, ushort_value, ulong_value, longlong_value}
use Rattle.td_typecode.specs.Labels.{ulonglong_value}
use Rattle.td_typecode.specs.Labels.{boolean_value, char_value, octet_value}
use Rattle.td_typecode.specs.Layers.{value-str, value-any, value-code, value-object, value-struct, value-union}
use Rattle.td_typecode.specs.Layers.{value-items}
use Rattle.td_typecode.specs.References.{reference}

-- a bound of 0 is none
abbrev pub fits : ℕ → ℕ → Bool
fits bound n = nat_eq bound 0 || not (nat_lt bound n)

-- ---- the branch of a union

-- the index of the default arm, where there is one
abbrev pub index_of : ℤ → Option ℕ
index_of (pos d) = Some d
index_of (negsuc d) = None

abbrev pub is_default : Option ℕ → ℕ → Bool
is_default (Some d) i = nat_eq d i
is_default None i = false

-- whether the arm at index i is chosen by the label, where this tells whether an arm has a label
abbrev pub is_chosen_by : {R : Type 0} → (R → Value → Bool) → Option ℕ → Value → ℕ → R → Bool
is_chosen_by has default label i arm = not (is_default default i) && has arm label

abbrev pub default_arm : {R : Type 0} → Option ℕ → List R → Option R
default_arm (Some d) arms = slice_get arms d
default_arm None arms = None

abbrev pub or_else : {R : Type 0} → Option R → Option R → Option R
or_else (Some x) o = Some x
or_else None o = o

-- the first arm but the default whose label this is, the arms being counted from i
abbrev pub first_labelled : {R : Type 0} → (R → Value → Bool) → Option ℕ → Value → ℕ → List R
    → Option R
first_labelled has default label i [] = None
first_labelled has default label i (arm ∷ arms) =
    if is_chosen_by has default label i arm then Some arm
    else first_labelled has default label (i + 1) arms

abbrev pub branch_labelled : {R : Type 0} → (R → Value → Bool) → Option ℕ → Value → List R
    → Option R
branch_labelled has default label arms =
    or_else (first_labelled has default label 0 arms) (default_arm default arms)

-- ---- what a value holds, where it holds it

abbrev pub text_in : ValueLayer → Option (List ℕ)
text_in (c.Value::Str t) = Some t
text_in l = None

abbrev pub any_in : ValueLayer → Option Any
any_in (c.AnyValue a) = Some a
any_in l = None

abbrev pub code_in : ValueLayer → Option TypeCode
code_in (c.Value::Code t) = Some t
code_in l = None

abbrev pub reference_in : ValueLayer → Option Ior
reference_in (c.Value::ObjRef r) = Some r
reference_in l = None

abbrev pub struct_in : ValueLayer → Option (List Value)
struct_in (c.Value::Struct vs) = Some vs
struct_in l = None

abbrev pub items_in : ValueLayer → Option (List Value)
items_in (c.Items vs) = Some vs
items_in l = None

abbrev pub label_in : ValueLayer → Value
label_in (c.Value::Union label arm) = label
label_in l = value.Empty

abbrev pub arm_in : ValueLayer → Option Value
arm_in (c.Value::Union label arm) = arm
arm_in l = None

-- the discriminator of a union's value
abbrev pub discriminator : Value → Value
discriminator v = label_in (out-Value v)

-- ---- values

-- a string of at most so many bytes
abbrev pub bounded_text : ℕ → Sound ValueFault (List ℕ)
bounded_text bound = restriction (λ v. fits bound (length v)) bad_value text

-- a count of at most so many
abbrev pub count_within : ℕ → Sound ValueFault ℕ
count_within bound = restriction (fits bound) bad_value ulong

abbrev pub string_value : ℕ → Sound ValueFault Value
string_value bound =
    variant (λ t. value.Str t) (λ v. text_in (out-Value v)) (λ t. ap text_in (value-str t))
    (bounded_text bound)

abbrev pub reference_value : Sound ValueFault Value
reference_value =
    variant (λ r. value.ObjRef r) (λ v. reference_in (out-Value v))
    (λ r. ap reference_in (value-object r)) reference

-- ---- a layer

-- what the parts of a layer are: the discriminators under a TypeCode in it, each written as a plain value is; the
-- TypeCodes of members and arms, and whether an arm has a label
pub record LayerParts (T R M : Type 0) : Type 1 where
  pub labels : ℕ → T → Sound ValueFault Value
  pub plain : (n : ℕ) (t : T) (v : Value) (order : Order) (place : ℕ)
      → (labels n t).format.writes v order place ≡ plain_piece v order place
  pub member_code : M → T
  pub arm_code : R → T
  pub has_label : R → Value → Bool

-- where an any, and a TypeCode, that stand inside are of one level more
module _ {T R M : Type 0} (parts : LayerParts T R M) (any : Sound ValueFault Any)
    (code : Sound ValueFault TypeCode) (inner : T → Sound ValueFault Value) where
  abbrev pub each : List M → Sound ValueFault (List Value)
  each [] = constant []
  each (m ∷ ms) = variant (λ p. p.0 ∷ p.1) uncons (λ _. refl)
      (inner (parts.member_code m) & each ms)

  -- the unions with this label, whose branch was chosen
  abbrev pub branch : Value → Option R → Arm_of ValueFault Value Value discriminator
  branch label None = bare_arm (value.Union label None)
  branch label (Some chosen) =
      arm label (λ v. value.Union label (Some v)) (λ v. arm_in (out-Value v))
      (λ v. ap arm_in (value-union label (Some v)))
      (λ v. sym (ap label_in (value-union label (Some v)))) (inner (parts.arm_code chosen))

  pub branch-label : (label : Value) (o : Option R) → (branch label o).tag ≡ label
  branch-label label None = ap label_in (value-union label None)
  branch-label label (Some chosen) = refl

  -- a union before it is known how it is written
  abbrev pub spelled_union : ℕ → T → Option ℕ → List R → Sound ValueFault Value
  spelled_union n switch default arms =
      union (parts.labels n switch) discriminator
      (λ label. branch label (branch_labelled parts.has_label default label arms))
      (λ label. branch-label label (branch_labelled parts.has_label default label arms))

  abbrev pub branch_piece : Option R → Option Value → Piece
  branch_piece None v = none
  branch_piece (Some chosen) None = none
  branch_piece (Some chosen) (Some v) = (inner (parts.arm_code chosen)).format.writes v

  -- a value that is no union is written as nothing
  abbrev pub union_piece : Option ℕ → List R → ValueLayer → Piece
  union_piece default arms (c.Value::Union label arm) =
      plain_piece label then branch_piece (branch_labelled parts.has_label default label arms) arm
  union_piece default arms l = none

  branch-is : (label : Value) (o : Option R) (v : Value) → (branch label o).format.admits v
      → (arm : Option Value) × (value.Union label arm ≡ v)
  branch-is label None v ok = (None, ok)
  branch-is label (Some chosen) v ok = (Some ok.0, ok.1)

  branch-written : (label : Value) (o : Option R) (arm : Option Value) (order : Order) (place : ℕ)
      → (branch label o).format.writes (value.Union label arm) order place
      ≡ branch_piece o arm order place
  branch-written label None arm order place = refl
  branch-written label (Some chosen) None order place = rw (value-union label None) refl
  branch-written label (Some chosen) (Some v) order place = rw (value-union label (Some v)) refl

  pub union-written : (n : ℕ) (switch : T) (default : Option ℕ) (arms : List R) (v : Value)
      (order : Order) (place : ℕ)
      → (spelled_union n switch default arms).format.admits v
      → (spelled_union n switch default arms).format.writes v order place
      ≡ union_piece default arms (out-Value v) order place
  union-written n switch default arms v order place ok =
      let is = branch-is (discriminator v)
      (branch_labelled parts.has_label default (discriminator v) arms) v ok.1 in
      subst (λ (u : Value). (spelled_union n switch default arms).format.writes u order place
      ≡ union_piece default arms (out-Value u) order place)
      is.1
      (let label = discriminator v in
      rw (value-union label is.0, parts.plain n switch label order place)
      (ap (λ (b : List ℕ). plain_piece label order place ++ b)
      (branch-written label (branch_labelled parts.has_label default label arms) is.0 order
      (place + length (plain_piece label order place)))))

  abbrev pub union_value : ℕ → T → Option ℕ → List R → Sound ValueFault Value
  union_value n switch default arms =
      other_writing (λ v. union_piece default arms (out-Value v))
      (spelled_union n switch default arms) (union-written n switch default arms)

  abbrev pub struct_value : List M → Sound ValueFault Value
  struct_value members =
      variant (λ vs. value.Struct vs) (λ v. struct_in (out-Value v))
      (λ vs. ap struct_in (value-struct vs)) (each members)

  -- items behind their count, and without it; a value that holds none is written as nothing
  abbrev pub items_piece : T → List Value → Piece
  items_piece item vs = row (map (inner item).format.writes vs)

  abbrev pub sequence_piece : T → List Value → Piece
  sequence_piece item vs = (number 4).writes (length vs) then items_piece item vs

  abbrev pub spelled_sequence : T → ℕ → Sound ValueFault Value
  spelled_sequence item bound =
      variant (λ vs. value.Items vs) (λ v. items_in (out-Value v))
      (λ vs. ap items_in (value-items vs)) (sequence_with (count_within bound) (inner item))

  pub sequence-written : (item : T) (bound : ℕ) (v : Value) (order : Order) (place : ℕ)
      → (spelled_sequence item bound).format.admits v
      → (spelled_sequence item bound).format.writes v order place
      ≡ none_or (sequence_piece item) (items_in (out-Value v)) order place
  sequence-written item bound v order place ok =
      subst (λ (u : Value). (spelled_sequence item bound).format.writes u order place
      ≡ none_or (sequence_piece item) (items_in (out-Value u)) order place)
      ok.1
      (let vs = ok.0 in rw (value-items vs) refl)

  abbrev pub sequence_value : T → ℕ → Sound ValueFault Value
  sequence_value item bound =
      other_writing (λ v. none_or (sequence_piece item) (items_in (out-Value v)))
      (spelled_sequence item bound) (sequence-written item bound)

  abbrev pub spelled_array : T → ℕ → Sound ValueFault Value
  spelled_array item len =
      variant (λ vs. value.Items vs) (λ v. items_in (out-Value v))
      (λ vs. ap items_in (value-items vs)) (array (inner item) len)

  pub array-written : (item : T) (len : ℕ) (v : Value) (order : Order) (place : ℕ)
      → (spelled_array item len).format.admits v
      → (spelled_array item len).format.writes v order place
      ≡ none_or (items_piece item) (items_in (out-Value v)) order place
  array-written item len v order place ok =
      subst (λ (u : Value). (spelled_array item len).format.writes u order place
      ≡ none_or (items_piece item) (items_in (out-Value u)) order place)
      ok.1
      (let vs = ok.0 in
      rw (value-items vs) (ap (λ (n : ℕ).
      (array_format (inner item).format n).writes vs order place)
      (array-size (inner item).format len vs ok.2)
      ∙ times-row (inner item).format vs order place))

  abbrev pub array_value : T → ℕ → Sound ValueFault Value
  array_value item len =
      other_writing (λ v. none_or (items_piece item) (items_in (out-Value v)))
      (spelled_array item len) (array-written item len)

  -- graphs: the values under a graph
  abbrev pub layer : (List Node → Sound ValueFault Value) → ℕ → TypeCode-F T Value Any R M
      → Sound ValueFault Value
  layer graphs n c.Null = constant value.Empty
  layer graphs n c.Void = constant value.Empty
  layer graphs n c.TypeCode::Short = short_value
  layer graphs n c.TypeCode::Long = long_value
  layer graphs n c.TypeCode::UShort = ushort_value
  layer graphs n c.TypeCode::ULong = ulong_value
  layer graphs n c.TypeCode::Boolean = boolean_value
  layer graphs n c.TypeCode::Char = char_value
  layer graphs n c.TypeCode::Octet = octet_value
  layer graphs n c.TypeCode::LongLong = longlong_value
  layer graphs n c.TypeCode::ULongLong = ulonglong_value
  layer graphs n c.AnyCode = variant (λ a. value.AnyValue a) (λ v. any_in (out-Value v))
      (λ a. ap any_in (value-any a)) any
  layer graphs n c.TypeCode::Code =
      variant (λ t. value.Code t) (λ v. code_in (out-Value v)) (λ t. ap code_in (value-code t)) code
  layer graphs n (c.TypeCode::Str bound) = string_value bound
  layer graphs n (c.TypeCode::ObjRef id name) = reference_value
  layer graphs n (c.TypeCode::Struct id name members) = struct_value members
  layer graphs n (c.TypeCode::Union id name switch default arms) =
      union_value n switch (index_of default) arms
  layer graphs n (c.TypeCode::Enum id name names) = one_of (length names)
  layer graphs n (c.Sequence item bound) = sequence_value item bound
  layer graphs n (c.Array item len) = array_value item len
  layer graphs n (c.Alias id name item) = inner item
  layer graphs n (c.Except id name members) =
      failure (λ a. fault.Unsupported (number_of kind.Except))
  layer graphs n (c.Linked graph) = graphs graph

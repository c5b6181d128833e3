-- The types of values that can be printed, and the words for them.
use Rattle.std.specs.Prelude.{ℕ, nat_eq, List, ◌++◌, codes, if◌then◌else◌, Option, Some, None}
use Rattle.td_typecode.specs.Labels.{Layer}
use Rattle.td_typecode.specs.declared.code.TypeCode.{TypeCode, out-TypeCode}
use Rattle.td_typecode.specs.declared.code.TypeCode.TheOpen as c
use Rattle.td_forms.specs.Items.{item_name}
use Rattle.td_forms.specs.declared.item.ItemType.{ItemType}
use Rattle.td_forms.specs.declared.item.ItemType.TheVariants as item
use Rattle.td_forms.specs.declared.value_type.ValueType.{ValueType}
use Rattle.td_forms.specs.declared.value_type.ValueType.TheVariants.{Plain, Sequence}

-- a bound of 0 is none
abbrev pub if_unbounded : ℕ → Option ItemType → Option ItemType
if_unbounded bound found = if nat_eq bound 0 then found else None

-- ---- single values

abbrev pub item_layer : Layer → Option ItemType
item_layer c.TypeCode::Short = Some item.Short
item_layer c.TypeCode::Long = Some item.Long
item_layer c.TypeCode::UShort = Some item.UShort
item_layer c.TypeCode::ULong = Some item.ULong
item_layer c.TypeCode::LongLong = Some item.LongLong
item_layer c.TypeCode::ULongLong = Some item.ULongLong
item_layer c.TypeCode::Octet = Some item.Octet
item_layer c.TypeCode::Char = Some item.Char
item_layer c.TypeCode::Boolean = Some item.Boolean
item_layer (c.TypeCode::Str bound) = if_unbounded bound (Some item.Str)
item_layer l = None

abbrev pub item_of : TypeCode → Option ItemType
item_of t = item_layer (out-TypeCode t)

-- ---- sequences of them

abbrev pub sequence_layer : Layer → Option ItemType
sequence_layer (c.Sequence items bound) = if_unbounded bound (item_of items)
sequence_layer l = None

abbrev pub sequence_of : TypeCode → Option ItemType
sequence_of t = sequence_layer (out-TypeCode t)

-- ---- both

abbrev pub first_of : Option ItemType → Option ItemType → Option ValueType
first_of (Some single) items = Some (Plain single)
first_of None (Some items) = Some (Sequence items)
first_of None None = None

-- the type that a TypeCode is, where there is a word for it
abbrev pub type_of : TypeCode → Option ValueType
type_of t = first_of (item_of t) (sequence_of t)

abbrev pub type_word : ValueType → List ℕ
type_word (Plain single) = item_name single
type_word (Sequence items) = codes "seq:" ++ item_name items

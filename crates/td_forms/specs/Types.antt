-- The types of values, by the words for them: a single value's, or `seq:` in front of it for a sequence of such values.
use Rattle.std.specs.Prelude.{ℕ, List, take, drop, codes, if◌then◌else◌, Option}
use Rattle.std.specs.Option.{option_map}
use Rattle.std.specs.Str.{bytes_eq}
use Rattle.td_cdr.specs.Format.{value_named}
use Rattle.td_typecode.specs.declared.code.TypeCode.{TypeCode}
use Rattle.td_typecode.specs.declared.code.TypeCode.TheVariants as code
use Rattle.td_forms.specs.Items.{item_code, item_name, items}
use Rattle.td_forms.specs.declared.value_type.ValueType.{ValueType}
use Rattle.td_forms.specs.declared.value_type.ValueType.TheVariants.{Plain, Sequence}

abbrev pub plain_named : List ℕ → Option ValueType
plain_named word = option_map Plain (value_named item_name items word)

abbrev pub sequence_named : List ℕ → Option ValueType
sequence_named word = option_map Sequence (value_named item_name items word)

abbrev pub value_type_of : List ℕ → Option ValueType
value_type_of word =
    if bytes_eq (take 4 word) (codes "seq:") then sequence_named (drop 4 word) else plain_named word

-- sequences and strings without bounds
abbrev pub code_of : ValueType → TypeCode
code_of (Plain item) = item_code item
code_of (Sequence item) = code.Sequence (item_code item) 0

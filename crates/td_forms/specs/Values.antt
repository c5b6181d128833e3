-- Values, as people write them.
use Rattle.std.specs.Prelude.{ℕ, nat_eq, Bool, List, [], ◌∷◌, if◌then◌else◌, Option, Some, None}
use Rattle.std.specs.List.{slice_split}
use Rattle.std.specs.Option.{option_map}
use Rattle.td_cdr.specs.Text.{has_nul}
use Rattle.td_typecode.specs.declared.code.Value.{Value}
use Rattle.td_typecode.specs.declared.code.Value.TheVariants as value
use Rattle.td_ior.specs.Keys.{◌>>=◌}
use Rattle.td_ior.specs.Number.{number_below}
use Rattle.td_forms.specs.Numbers.{signed_below}
use Rattle.td_forms.specs.Words.{truth_named}
use Rattle.td_forms.specs.declared.item.ItemType.{ItemType}
use Rattle.td_forms.specs.declared.item.ItemType.TheVariants as item
use Rattle.td_forms.specs.declared.value_type.ValueType.{ValueType}
use Rattle.td_forms.specs.declared.value_type.ValueType.TheVariants.{Plain, Sequence}

-- ---- single values: numbers in the range of their type

abbrev pub short_value : List ℕ → Option Value
short_value text = option_map value.Short (signed_below 32768 text)

abbrev pub long_value : List ℕ → Option Value
long_value text = option_map value.Long (signed_below 2147483648 text)

abbrev pub long_long_value : List ℕ → Option Value
long_long_value text = option_map value.LongLong (signed_below 9223372036854775808 text)

abbrev pub u_short_value : List ℕ → Option Value
u_short_value text = option_map value.UShort (number_below 65536 text)

abbrev pub u_long_value : List ℕ → Option Value
u_long_value text = option_map value.ULong (number_below 4294967296 text)

abbrev pub u_long_long_value : List ℕ → Option Value
u_long_long_value text = option_map value.ULongLong (number_below 18446744073709551616 text)

abbrev pub octet_value : List ℕ → Option Value
octet_value text = option_map value.Octet (number_below 256 text)

-- one byte
abbrev pub char_value : List ℕ → Option Value
char_value (byte ∷ []) = Some (value.Char byte)
char_value _ = None

abbrev pub boolean_value : List ℕ → Option Value
boolean_value text = option_map value.Boolean (truth_named text)

-- bytes without a NUL
abbrev pub string_value : List ℕ → Option Value
string_value text = if has_nul text then None else Some (value.Str text)

unfoldable pub item_value : ItemType → List ℕ → Option Value
item_value item.Short text = short_value text
item_value item.Long text = long_value text
item_value item.UShort text = u_short_value text
item_value item.ULong text = u_long_value text
item_value item.LongLong text = long_long_value text
item_value item.ULongLong text = u_long_long_value text
item_value item.Octet text = octet_value text
item_value item.Char text = char_value text
item_value item.Boolean text = boolean_value text
item_value item.Str text = string_value text

-- ---- sequences

abbrev pub is_comma : ℕ → Bool
is_comma b = nat_eq b 44

-- a value for each of these texts
abbrev pub all_values : ItemType → List (List ℕ) → Option (List Value)
all_values item [] = Some []
all_values item (text ∷ texts) = item_value item text >>= λ v. all_values item texts >>= λ vs.
    Some (v ∷ vs)

-- what stands between commas; an empty text has no items
abbrev pub texts_of : List ℕ → List (List ℕ)
texts_of [] = []
texts_of (b ∷ bytes) = slice_split is_comma (b ∷ bytes)

abbrev pub items_of : ItemType → List ℕ → Option (List Value)
items_of item text = all_values item (texts_of text)

abbrev pub sequence_value : ItemType → List ℕ → Option Value
sequence_value item text = option_map value.Items (items_of item text)

-- ---- both

abbrev pub value_of : ValueType → List ℕ → Option Value
value_of (Plain item) text = item_value item text
value_of (Sequence item) text = sequence_value item text

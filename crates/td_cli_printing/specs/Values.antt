-- Values as they are printed, in the forms in which a server's file has them: numbers in decimal without leading zeros,
-- with `-` before a negative one, TRUE and FALSE, the one byte of a char, a string's bytes, and a comma between items.
use Rattle.std.specs.Prelude.{ℕ, Bool, List, [], ◌∷◌, ◌++◌, codes, decimal, if◌then◌else◌, Option, Some, None}
use Rattle.std.specs.Fmt.{signed_decimal}
use Rattle.td_typecode.specs.Labels.{ValueLayer}
use Rattle.td_typecode.specs.declared.code.TypeCode.TheOpen as c
use Rattle.td_typecode.specs.declared.code.Value.{Value, out-Value}

abbrev pub truth_text : Bool → List ℕ
truth_text truth = if truth then codes "TRUE" else codes "FALSE"

-- ---- single values; another value has no text

abbrev pub item_layer : ValueLayer → List ℕ
item_layer (c.Value::Short z) = signed_decimal z
item_layer (c.Value::Long z) = signed_decimal z
item_layer (c.Value::UShort n) = decimal n
item_layer (c.Value::ULong n) = decimal n
item_layer (c.Value::LongLong z) = signed_decimal z
item_layer (c.Value::ULongLong n) = decimal n
item_layer (c.Value::Octet n) = decimal n
item_layer (c.Value::Char byte) = byte ∷ []
item_layer (c.Value::Boolean truth) = truth_text truth
item_layer (c.Value::Str text) = text
item_layer l = []

abbrev pub item_text : Value → List ℕ
item_text v = item_layer (out-Value v)

-- ---- sequences

abbrev pub with_comma : Value → List ℕ
with_comma v = codes "," ++ item_text v

abbrev pub with_commas : List Value → List ℕ
with_commas [] = []
with_commas (v ∷ vs) = with_comma v ++ with_commas vs

abbrev pub items_text : List Value → List ℕ
items_text [] = []
items_text (v ∷ vs) = item_text v ++ with_commas vs

abbrev pub items_layer : ValueLayer → Option (List Value)
items_layer (c.Items vs) = Some vs
items_layer l = None

abbrev pub items_of : Value → Option (List Value)
items_of v = items_layer (out-Value v)

-- ---- both

abbrev pub listed_or : Option (List Value) → List ℕ → List ℕ
listed_or (Some vs) other = items_text vs
listed_or None other = other

abbrev pub value_text : Value → List ℕ
value_text v = listed_or (items_of v) (item_text v)

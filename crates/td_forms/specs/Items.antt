-- The types of single values, by the words for them.
use Rattle.std.specs.Prelude.{ℕ, List, [], ◌∷◌, codes}
use Rattle.td_typecode.specs.declared.code.TypeCode.{TypeCode}
use Rattle.td_typecode.specs.declared.code.TypeCode.TheVariants as code
use Rattle.td_forms.specs.declared.item.ItemType.{ItemType}
use Rattle.td_forms.specs.declared.item.ItemType.TheVariants as item

abbrev pub item_name : ItemType → List ℕ
item_name item.Short = codes "short"
item_name item.Long = codes "long"
item_name item.UShort = codes "ushort"
item_name item.ULong = codes "ulong"
item_name item.LongLong = codes "longlong"
item_name item.ULongLong = codes "ulonglong"
item_name item.Octet = codes "octet"
item_name item.Char = codes "char"
item_name item.Boolean = codes "boolean"
item_name item.Str = codes "string"

abbrev pub items : List ItemType
items =
    item.Short ∷ item.Long ∷ item.UShort ∷ item.ULong ∷ item.LongLong ∷ item.ULongLong ∷ item.Octet
    ∷ item.Char ∷ item.Boolean ∷ item.Str ∷ []

abbrev pub item_code : ItemType → TypeCode
item_code item.Short = code.Short
item_code item.Long = code.Long
item_code item.UShort = code.UShort
item_code item.ULong = code.ULong
item_code item.LongLong = code.LongLong
item_code item.ULongLong = code.ULongLong
item_code item.Octet = code.Octet
item_code item.Char = code.Char
item_code item.Boolean = code.Boolean
item_code item.Str = code.Str 0

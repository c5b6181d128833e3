-- Trading Object Service, "The Constraint Language", on the types of properties; CORBA, interface repository,
-- "TypeCodes", on kinds.
use Rattle.std.specs.Prelude.{ℕ, pos, nat_eq, Bool, ◌||◌, if◌then◌else◌, List, [], ◌∷◌, Option, None, Some, option_map}
use Rattle.std.specs.Prelude.{option_and_then}
use Rattle.td_typecode.specs.declared.code.TypeCode.{TypeCode}
use Rattle.td_typecode.specs.declared.code.Any.{Any}
use Rattle.td_typecode.specs.declared.code.TypeCode.TheOpen as c
use Rattle.td_typecode.specs.declared.code.TypeCode.TheOpen.{Value-F}
use Rattle.td_typecode.specs.declared.code.Value.{Value, out-Value}
use Rattle.td_typecode.specs.Same.{Shapes, empty, node, Shape, shape}
use Rattle.td_eval.specs.declared.simple.Simple.{Simple}
use Rattle.td_eval.specs.declared.simple.Simple.TheVariants.{Number, Text, Truth}
use Rattle.td_eval.specs.declared.simple.Sort.{Sort}
use Rattle.td_eval.specs.declared.simple.Sort.TheVariants.{Numbers, Texts, Truths}
use Rattle.td_eval.specs.Fractions.{fraction}

-- a value of the languages, or a list of values of one sort
pub data LangValue : Type 0 where
  One : Simple → LangValue
  Many : Sort → List Simple → LangValue

-- ---- kinds

-- the kind of a TypeCode, its aliases taken off
abbrev pub kind_of : TypeCode → ℕ
kind_of t = (shape t).kind

abbrev pub first_kind : Shapes → ℕ
first_kind empty = 0
first_kind (node label kind numbers id inner others) = kind

-- the kind of a sequence's items, where it is one
abbrev pub items_kind : Shape → Option ℕ
items_kind s = if nat_eq s.kind 19 then Some (first_kind s.inner) else None

abbrev pub item_kind : TypeCode → Option ℕ
item_kind t = items_kind (shape t)

-- short, long, ushort, ulong, octet, longlong and ulonglong
abbrev pub is_numeric : ℕ → Bool
is_numeric kind =
    nat_eq kind 2 || (nat_eq kind 3
    || (nat_eq kind 4 || (nat_eq kind 5 || (nat_eq kind 10 || (nat_eq kind 23 || nat_eq kind 24)))))

-- char and string
abbrev pub is_textual : ℕ → Bool
is_textual kind = nat_eq kind 9 || nat_eq kind 18

-- what values of a kind are; boolean has kind 8
unfoldable pub sort_of : ℕ → Option Sort
sort_of kind =
    if is_numeric kind then Some Numbers else if is_textual kind then Some Texts else if nat_eq kind
    8 then Some Truths
    else None

-- ---- values

abbrev pub with_kind : ℕ → Option Simple → Option (ℕ × Simple)
with_kind kind None = None
with_kind kind (Some x) = Some (kind, x)

-- the kind under which a value stands, with what it is in the languages
abbrev pub scalar_layer : {T V A R M : Type 0} → Value-F T V A R M → Option (ℕ × Simple)
scalar_layer (c.Value::Short z) = Some (2, Number z (pos 1))
scalar_layer (c.Value::Long z) = Some (3, Number z (pos 1))
scalar_layer (c.Value::UShort n) = Some (4, Number (pos n) (pos 1))
scalar_layer (c.Value::ULong n) = Some (5, Number (pos n) (pos 1))
scalar_layer (c.Value::Boolean b) = Some (8, Truth b)
scalar_layer (c.Value::Char b) = Some (9, Text (b ∷ []))
scalar_layer (c.Value::Octet n) = Some (10, Number (pos n) (pos 1))
scalar_layer (c.Value::Str t) = Some (18, Text t)
scalar_layer (c.Value::LongLong z) = with_kind 23 (fraction z (pos 1))
scalar_layer (c.Value::ULongLong n) = with_kind 24 (fraction (pos n) (pos 1))
scalar_layer l = None

abbrev pub scalar : Value → Option (ℕ × Simple)
scalar v = scalar_layer (out-Value v)

-- the items of a sequence or of an array
abbrev pub items_layer : {T V A R M : Type 0} → Value-F T V A R M → Option (List V)
items_layer (c.Items vs) = Some vs
items_layer l = None

abbrev pub items_of : Value → Option (List Value)
items_of v = items_layer (out-Value v)

abbrev pub if_kind : ℕ → Option (ℕ × Simple) → Option Simple
if_kind kind None = None
if_kind kind (Some p) = if nat_eq p.0 kind then Some p.1 else None

-- what a value is that stands under a kind
unfoldable pub simple_under : ℕ → Value → Option Simple
simple_under kind v = if_kind kind (scalar v)

abbrev pub with_item : Option Simple → Option (List Simple) → Option (List Simple)
with_item None xs = None
with_item (Some x) None = None
with_item (Some x) (Some xs) = Some (x ∷ xs)

-- what the items are, where each is something
abbrev pub all_under : ℕ → List Value → Option (List Simple)
all_under kind [] = Some []
all_under kind (v ∷ vs) = with_item (simple_under kind v) (all_under kind vs)

abbrev pub list_of : Option Sort → Option (List Simple) → Option LangValue
list_of None xs = None
list_of (Some s) None = None
list_of (Some s) (Some xs) = Some (Many s xs)

-- what a sequence is whose items are of a kind
unfoldable pub list_under : ℕ → Value → Option LangValue
list_under kind v = list_of (sort_of kind) (option_and_then (all_under kind) (items_of v))

-- ---- properties

abbrev pub content_under : Option ℕ → Any → Option LangValue
content_under None a = option_map One (simple_under (kind_of a.code) a.value)
content_under (Some kind) a = list_under kind a.value

-- what an any is, its aliases taken off
unfoldable pub content_of : Any → Option LangValue
content_of a = content_under (item_kind a.code) a

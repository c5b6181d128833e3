-- One layer of a TypeCode or of a value, where that is one of the variants.
use Rattle.std.specs.Prelude.{◌≡◌, ℕ, ℤ, Bool, List, Option}
use Rattle.std.proofs.Common.{sym, ap, ◌∙◌}
use Rattle.tc_graph.specs.declared.node.Node.{Node}
use Rattle.td_typecode.specs.declared.code.TypeCode.{TypeCode, out-TypeCode, out-roll-TypeCode}
use Rattle.td_typecode.specs.declared.code.TypeCode.TheVariants as code
use Rattle.td_typecode.specs.declared.code.TypeCode.TheOpen as c
use Rattle.td_typecode.specs.declared.code.Value.{Value, out-Value, out-roll-Value}
use Rattle.td_typecode.specs.declared.code.Value.TheVariants as value
use Rattle.td_typecode.specs.declared.code.Any.{Any}
use Rattle.td_typecode.specs.declared.code.Arm.{Arm}
use Rattle.td_typecode.specs.declared.code.Member.{Member}
use Rattle.td_typecode.specs.declared.reference.Ior.{Ior}

pub code-null : out-TypeCode code.Null ≡ c.Null
code-null = ap out-TypeCode (sym code.rolls-Null) ∙ out-roll-TypeCode c.Null

pub code-void : out-TypeCode code.Void ≡ c.Void
code-void = ap out-TypeCode (sym code.rolls-Void) ∙ out-roll-TypeCode c.Void

pub code-short : out-TypeCode code.Short ≡ c.TypeCode::Short
code-short = ap out-TypeCode (sym code.rolls-Short) ∙ out-roll-TypeCode c.TypeCode::Short

pub code-long : out-TypeCode code.Long ≡ c.TypeCode::Long
code-long = ap out-TypeCode (sym code.rolls-Long) ∙ out-roll-TypeCode c.TypeCode::Long

pub code-ushort : out-TypeCode code.UShort ≡ c.TypeCode::UShort
code-ushort = ap out-TypeCode (sym code.rolls-UShort) ∙ out-roll-TypeCode c.TypeCode::UShort

pub code-ulong : out-TypeCode code.ULong ≡ c.TypeCode::ULong
code-ulong = ap out-TypeCode (sym code.rolls-ULong) ∙ out-roll-TypeCode c.TypeCode::ULong

pub code-boolean : out-TypeCode code.Boolean ≡ c.TypeCode::Boolean
code-boolean = ap out-TypeCode (sym code.rolls-Boolean) ∙ out-roll-TypeCode c.TypeCode::Boolean

pub code-char : out-TypeCode code.Char ≡ c.TypeCode::Char
code-char = ap out-TypeCode (sym code.rolls-Char) ∙ out-roll-TypeCode c.TypeCode::Char

pub code-octet : out-TypeCode code.Octet ≡ c.TypeCode::Octet
code-octet = ap out-TypeCode (sym code.rolls-Octet) ∙ out-roll-TypeCode c.TypeCode::Octet

pub code-any : out-TypeCode code.AnyCode ≡ c.AnyCode
code-any = ap out-TypeCode (sym code.rolls-AnyCode) ∙ out-roll-TypeCode c.AnyCode

pub code-code : out-TypeCode code.Code ≡ c.TypeCode::Code
code-code = ap out-TypeCode (sym code.rolls-Code) ∙ out-roll-TypeCode c.TypeCode::Code

pub code-object : (id : List ℕ) (name : List ℕ) → out-TypeCode (code.ObjRef id name)
    ≡ c.TypeCode::ObjRef id name
code-object id name = ap out-TypeCode (sym (code.rolls-ObjRef id name))
    ∙ out-roll-TypeCode (c.TypeCode::ObjRef id name)

pub code-struct : (id : List ℕ) (name : List ℕ) (members : List Member)
    → out-TypeCode (code.Struct id name members) ≡ c.TypeCode::Struct id name members
code-struct id name members =
    ap out-TypeCode (sym (code.rolls-Struct id name members))
    ∙ out-roll-TypeCode (c.TypeCode::Struct id name members)

pub code-union : (id : List ℕ) (name : List ℕ) (switch : TypeCode) (default : ℤ) (arms : List Arm)
    → out-TypeCode (code.Union id name switch default arms)
    ≡ c.TypeCode::Union id name switch default arms
code-union id name switch default arms =
    ap out-TypeCode (sym (code.rolls-Union id name switch default arms))
    ∙ out-roll-TypeCode (c.TypeCode::Union id name switch default arms)

pub code-enum : (id : List ℕ) (name : List ℕ) (names : List (List ℕ))
    → out-TypeCode (code.Enum id name names) ≡ c.TypeCode::Enum id name names
code-enum id name names =
    ap out-TypeCode (sym (code.rolls-Enum id name names))
    ∙ out-roll-TypeCode (c.TypeCode::Enum id name names)

pub code-str : (bound : ℕ) → out-TypeCode (code.Str bound) ≡ c.TypeCode::Str bound
code-str bound = ap out-TypeCode (sym (code.rolls-Str bound))
    ∙ out-roll-TypeCode (c.TypeCode::Str bound)

pub code-sequence : (item : TypeCode) (bound : ℕ) → out-TypeCode (code.Sequence item bound)
    ≡ c.Sequence item bound
code-sequence item bound =
    ap out-TypeCode (sym (code.rolls-Sequence item bound))
    ∙ out-roll-TypeCode (c.Sequence item bound)

pub code-array : (item : TypeCode) (len : ℕ) → out-TypeCode (code.Array item len) ≡ c.Array item len
code-array item len = ap out-TypeCode (sym (code.rolls-Array item len))
    ∙ out-roll-TypeCode (c.Array item len)

pub code-alias : (id : List ℕ) (name : List ℕ) (item : TypeCode)
    → out-TypeCode (code.Alias id name item) ≡ c.Alias id name item
code-alias id name item =
    ap out-TypeCode (sym (code.rolls-Alias id name item)) ∙ out-roll-TypeCode (c.Alias id name item)

pub code-except : (id : List ℕ) (name : List ℕ) (members : List Member)
    → out-TypeCode (code.Except id name members) ≡ c.Except id name members
code-except id name members =
    ap out-TypeCode (sym (code.rolls-Except id name members))
    ∙ out-roll-TypeCode (c.Except id name members)

pub code-longlong : out-TypeCode code.LongLong ≡ c.TypeCode::LongLong
code-longlong = ap out-TypeCode (sym code.rolls-LongLong) ∙ out-roll-TypeCode c.TypeCode::LongLong

pub code-ulonglong : out-TypeCode code.ULongLong ≡ c.TypeCode::ULongLong
code-ulonglong = ap out-TypeCode (sym code.rolls-ULongLong)
    ∙ out-roll-TypeCode c.TypeCode::ULongLong

pub code-linked : (graph : List Node) → out-TypeCode (code.Linked graph) ≡ c.Linked graph
code-linked graph = ap out-TypeCode (sym (code.rolls-Linked graph))
    ∙ out-roll-TypeCode (c.Linked graph)

pub value-empty : out-Value value.Empty ≡ c.Empty
value-empty = ap out-Value (sym value.rolls-Empty) ∙ out-roll-Value c.Empty

pub value-short : (z : ℤ) → out-Value (value.Short z) ≡ c.Value::Short z
value-short z = ap out-Value (sym (value.rolls-Short z)) ∙ out-roll-Value (c.Value::Short z)

pub value-long : (z : ℤ) → out-Value (value.Long z) ≡ c.Value::Long z
value-long z = ap out-Value (sym (value.rolls-Long z)) ∙ out-roll-Value (c.Value::Long z)

pub value-ushort : (n : ℕ) → out-Value (value.UShort n) ≡ c.Value::UShort n
value-ushort n = ap out-Value (sym (value.rolls-UShort n)) ∙ out-roll-Value (c.Value::UShort n)

pub value-ulong : (n : ℕ) → out-Value (value.ULong n) ≡ c.Value::ULong n
value-ulong n = ap out-Value (sym (value.rolls-ULong n)) ∙ out-roll-Value (c.Value::ULong n)

pub value-boolean : (b : Bool) → out-Value (value.Boolean b) ≡ c.Value::Boolean b
value-boolean b = ap out-Value (sym (value.rolls-Boolean b)) ∙ out-roll-Value (c.Value::Boolean b)

pub value-char : (n : ℕ) → out-Value (value.Char n) ≡ c.Value::Char n
value-char n = ap out-Value (sym (value.rolls-Char n)) ∙ out-roll-Value (c.Value::Char n)

pub value-octet : (n : ℕ) → out-Value (value.Octet n) ≡ c.Value::Octet n
value-octet n = ap out-Value (sym (value.rolls-Octet n)) ∙ out-roll-Value (c.Value::Octet n)

pub value-longlong : (z : ℤ) → out-Value (value.LongLong z) ≡ c.Value::LongLong z
value-longlong z = ap out-Value (sym (value.rolls-LongLong z))
    ∙ out-roll-Value (c.Value::LongLong z)

pub value-ulonglong : (n : ℕ) → out-Value (value.ULongLong n) ≡ c.Value::ULongLong n
value-ulonglong n = ap out-Value (sym (value.rolls-ULongLong n))
    ∙ out-roll-Value (c.Value::ULongLong n)

pub value-str : (t : List ℕ) → out-Value (value.Str t) ≡ c.Value::Str t
value-str t = ap out-Value (sym (value.rolls-Str t)) ∙ out-roll-Value (c.Value::Str t)

pub value-any : (a : Any) → out-Value (value.AnyValue a) ≡ c.AnyValue a
value-any a = ap out-Value (sym (value.rolls-AnyValue a)) ∙ out-roll-Value (c.AnyValue a)

pub value-code : (t : TypeCode) → out-Value (value.Code t) ≡ c.Value::Code t
value-code t = ap out-Value (sym (value.rolls-Code t)) ∙ out-roll-Value (c.Value::Code t)

pub value-object : (r : Ior) → out-Value (value.ObjRef r) ≡ c.Value::ObjRef r
value-object r = ap out-Value (sym (value.rolls-ObjRef r)) ∙ out-roll-Value (c.Value::ObjRef r)

pub value-struct : (vs : List Value) → out-Value (value.Struct vs) ≡ c.Value::Struct vs
value-struct vs = ap out-Value (sym (value.rolls-Struct vs)) ∙ out-roll-Value (c.Value::Struct vs)

pub value-union : (label : Value) (arm : Option Value) → out-Value (value.Union label arm)
    ≡ c.Value::Union label arm
value-union label arm = ap out-Value (sym (value.rolls-Union label arm))
    ∙ out-roll-Value (c.Value::Union label arm)

pub value-enum : (n : ℕ) → out-Value (value.Enum n) ≡ c.Value::Enum n
value-enum n = ap out-Value (sym (value.rolls-Enum n)) ∙ out-roll-Value (c.Value::Enum n)

pub value-items : (vs : List Value) → out-Value (value.Items vs) ≡ c.Items vs
value-items vs = ap out-Value (sym (value.rolls-Items vs)) ∙ out-roll-Value (c.Items vs)

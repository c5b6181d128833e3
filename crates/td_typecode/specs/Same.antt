-- When two TypeCodes are the same (CORBA's chapter on the interface repository, "TypeCodes", on the
-- comparison of TypeCodes): without their aliases, and names don't count. One of them or both may be graphs.
use Rattle.std.specs.Prelude.{ℕ, ℤ, pos, suc, ◌*◌, Bool, true, false, IsTrue, not, ◌&&◌, ◌||◌, if◌then◌else◌, List, []}
use Rattle.std.specs.Prelude.{◌∷◌, ◌++◌, length, nat_eq, Option, Some, None}
use Rattle.std.specs.Ordering.{int_eq}
use Rattle.std.specs.Cmp.Lexicographic.{pointwise}
use Rattle.tc_graph.specs.declared.node.Node.{Node}
use Rattle.tc_graph.specs.Nodes.{node_at}
use Rattle.tc_graph.specs.Aliases.{bare}
use Rattle.tc_graph.specs.Sameness.{alike as graphs_alike}
use Rattle.td_typecode.specs.declared.label.Label.{Label}
use Rattle.td_typecode.specs.declared.label.Label.TheVariants.{One, Two, Four, Eight}
use Rattle.td_typecode.specs.declared.code.TypeCode.{TypeCode, fold-TypeCode, TypeCode-F, out-TypeCode}
use Rattle.td_typecode.specs.declared.code.TypeCode.TheOpen as c
use Rattle.td_typecode.specs.declared.code.TypeCode.TheOpen.{Any-F, Arm-F, Member-F}
use Rattle.td_typecode.specs.declared.code.Arm.{Arm, fold-Arm}
use Rattle.td_typecode.specs.declared.code.Member.{Member, fold-Member}
use Rattle.td_typecode.specs.declared.kinds.CodeKind.{CodeKind}
use Rattle.td_typecode.specs.declared.kinds.CodeKind.TheVariants as kind
use Rattle.td_typecode.specs.Kinds.{number_of, indirection}
use Rattle.td_typecode.specs.Labels.{label_of_layer, same_label}

-- ---- what counts of a TypeCode

-- A row of TypeCodes: of each the label under which it stands in a union, its kind, its numbers (bound,
-- length, count of names, default index), its id, and the row of the TypeCodes in it; and then the others.
pub data Shapes : Type 0 where
  empty : Shapes
  node : List Label → ℕ → List ℤ → List ℕ → Shapes → Shapes → Shapes

-- one TypeCode
pub record Shape : Type 0 where
  pub kind : ℕ
  pub numbers : List ℤ
  pub id : List ℕ
  pub inner : Shapes

-- one that stands in another, with its label where it has one
pub record Component : Type 0 where
  pub label : List Label
  pub shape : Shape

abbrev pub before : Component → Shapes → Shapes
before e others = node e.label e.shape.kind e.shape.numbers e.shape.id e.shape.inner others

abbrev pub row : List Component → Shapes
row [] = empty
row (e ∷ es) = before e (row es)

-- one that has no label
abbrev pub entry_without_label : Shape → Component
entry_without_label s = record { label = []; shape = s }

abbrev pub kind_shape : CodeKind → Shape
kind_shape k = record { kind = number_of k; numbers = []; id = []; inner = empty }

abbrev pub str_shape : ℕ → Shape
str_shape bound = record {
  kind = number_of kind.Str;
  numbers = pos bound ∷ [];
  id = [];
  inner = empty;
}

abbrev pub object_shape : List ℕ → Shape
object_shape id = record { kind = number_of kind.ObjRef; numbers = []; id = id; inner = empty }

-- a structure or an exception
abbrev pub fields_shape : CodeKind → List ℕ → List Component → Shape
fields_shape k id members = record {
  kind = number_of k;
  numbers = [];
  id = id;
  inner = row members;
}

abbrev pub union_shape : List ℕ → Shape → ℤ → List Component → Shape
union_shape id switch default arms = record {
  kind = number_of kind.Union;
  numbers = default ∷ [];
  id = id;
  inner = row (entry_without_label switch ∷ arms);
}

abbrev pub enum_shape : List ℕ → ℕ → Shape
enum_shape id count = record {
  kind = number_of kind.Enum;
  numbers = pos count ∷ [];
  id = id;
  inner = empty;
}

-- a sequence or an array
abbrev pub items_shape : CodeKind → Shape → ℕ → Shape
items_shape k item size = record {
  kind = number_of k;
  numbers = pos size ∷ [];
  id = [];
  inner = row (entry_without_label item ∷ []);
}

-- a graph has no kind's number, and nothing else of it is seen here
abbrev pub graph_shape : Shape
graph_shape = record { kind = indirection; numbers = []; id = []; inner = empty }

abbrev pub shape_layer : TypeCode-F Shape Label Label Component Component → Shape
shape_layer c.Null = kind_shape kind.Null
shape_layer c.Void = kind_shape kind.Void
shape_layer c.TypeCode::Short = kind_shape kind.Short
shape_layer c.TypeCode::Long = kind_shape kind.Long
shape_layer c.TypeCode::UShort = kind_shape kind.UShort
shape_layer c.TypeCode::ULong = kind_shape kind.ULong
shape_layer c.TypeCode::Boolean = kind_shape kind.Boolean
shape_layer c.TypeCode::Char = kind_shape kind.Char
shape_layer c.TypeCode::Octet = kind_shape kind.Octet
shape_layer c.AnyCode = kind_shape kind.AnyCode
shape_layer c.TypeCode::Code = kind_shape kind.Code
shape_layer (c.TypeCode::ObjRef id name) = object_shape id
shape_layer (c.TypeCode::Struct id name members) = fields_shape kind.Struct id members
shape_layer (c.TypeCode::Union id name switch default arms) = union_shape id switch default arms
shape_layer (c.TypeCode::Enum id name names) = enum_shape id (length names)
shape_layer (c.TypeCode::Str bound) = str_shape bound
shape_layer (c.Sequence item bound) = items_shape kind.Sequence item bound
shape_layer (c.Array item len) = items_shape kind.Array item len
shape_layer (c.Alias id name item) = item
shape_layer (c.Except id name members) = fields_shape kind.Except id members
shape_layer c.TypeCode::LongLong = kind_shape kind.LongLong
shape_layer c.TypeCode::ULongLong = kind_shape kind.ULongLong
shape_layer (c.Linked graph) = graph_shape

abbrev pub arm_layer : Arm-F Shape Label Label Component Component → Component
arm_layer a = record { label = a.label ∷ []; shape = a.code }

abbrev pub member_layer : Member-F Shape Label Label Component Component → Component
member_layer m = entry_without_label m.code

abbrev pub any_layer : Any-F Shape Label Label Component Component → Label
any_layer a = a.value

abbrev pub shape : TypeCode → Shape
shape = fold-TypeCode Shape Label Label Component Component shape_layer label_of_layer any_layer
    arm_layer
    member_layer

abbrev pub member_entry : Member → Component
member_entry = fold-Member Shape Label Label Component Component shape_layer label_of_layer
    any_layer
    arm_layer member_layer

abbrev pub arm_entry : Arm → Component
arm_entry = fold-Arm Shape Label Label Component Component shape_layer label_of_layer any_layer
    arm_layer
    member_layer

-- ---- the comparison

-- equal wherever both are not empty
abbrev pub ids_agree : List ℕ → List ℕ → Bool
ids_agree a b = nat_eq (length a) 0 || (nat_eq (length b) 0 || pointwise nat_eq a b)

-- Equal. A graph that stands in another TypeCode, where no bytes spell one, is the same as nothing.
abbrev pub kinds_agree : ℕ → ℕ → Bool
kinds_agree k j = nat_eq k j && not (nat_eq k indirection)

-- as many, and the same in order
abbrev pub alike : Shapes → Shapes → Bool
alike empty empty = true
alike empty (node l k n i x xs) = false
alike (node l k n i x xs) empty = false
alike (node l k n i x xs) (node m j o h y ys) =
    (pointwise same_label l m
    && (kinds_agree k j && (pointwise int_eq n o && (ids_agree i h && alike x y)))) && alike xs ys

abbrev pub like : Shape → Shape → Bool
like s t =
    kinds_agree s.kind t.kind
    && (pointwise int_eq s.numbers t.numbers && (ids_agree s.id t.id && alike s.inner t.inner))

abbrev pub entry_like : Component → Component → Bool
entry_like d e = pointwise same_label d.label e.label && like d.shape e.shape

-- ---- the comparison with a place of a graph

-- the number that spells a label
abbrev pub label_number : Label → ℕ
label_number (One n) = n
label_number (Two n) = n
label_number (Four n) = n
label_number (Eight n) = n

abbrev pub label_numbers : List Label → List ℤ
label_numbers [] = []
label_numbers (l ∷ ls) = pos (label_number l) ∷ label_numbers ls

abbrev pub labels_in : Shapes → List ℤ
labels_in empty = []
labels_in (node l k n i x xs) = label_numbers l ++ labels_in xs

abbrev pub count : Shapes → ℕ
count empty = 0
count (node l k n i x xs) = suc (count xs)

abbrev pub first_number : List ℤ → ℕ
first_number (pos n ∷ ns) = n
first_number ns = 0

-- the numbers that a node has: a bound, a length, or a default index and labels
abbrev pub node_numbers : ℕ → List ℤ → Shapes → List ℤ
node_numbers k n x = if nat_eq k (number_of kind.Enum) then [] else n ++ labels_in x

-- how many names a node has: its own, and those of its members, of its arms or of its values
abbrev pub name_count : ℕ → List ℤ → Shapes → ℕ
name_count k n x =
    if nat_eq k (number_of kind.Enum) then suc (first_number n)
    else if nat_eq k (number_of kind.ObjRef) then 1
    else if nat_eq k (number_of kind.Union) then count x
    else if nat_eq k (number_of kind.Struct)
    || nat_eq k (number_of kind.Except) then suc (count x) else 0

-- what counts of one without aliases and of a node, wherever edges lead
abbrev pub heads_agree : ℕ → List ℕ → Node → Bool
heads_agree k i p = kinds_agree k p.kind && ids_agree i p.id

abbrev pub node_agrees : ℕ → List ℤ → List ℕ → Shapes → Node → Bool
node_agrees k n i x p =
    (heads_agree k i p && nat_eq (name_count k n x) (length p.names))
    && pointwise int_eq (node_numbers k n x) p.numbers

-- as many, and each the same as the place to which an edge leads
abbrev pub alike_along : List Node → Shapes → List ℕ → Bool
alike_along g empty [] = true
alike_along g empty (e ∷ es) = false
alike_along g (node l k n i x xs) [] = false
alike_along g (node l k n i x xs) (e ∷ es) =
    (node_agrees k n i x (node_at g (bare g e)) && alike_along g x (node_at g (bare g e)).edges)
    && alike_along g xs es

abbrev pub alike_node : List Node → Shape → Node → Bool
alike_node g s p = node_agrees s.kind s.numbers s.id s.inner p && alike_along g s.inner p.edges

-- the same as what stands at a place, without aliases
abbrev pub alike_at : List Node → Shape → ℕ → Bool
alike_at g s p = alike_node g s (node_at g (bare g p))

-- ---- the same

abbrev pub graph_in : {T V A R M : Type 0} → TypeCode-F T V A R M → Option (List Node)
graph_in (c.Linked graph) = Some graph
graph_in l = None

abbrev pub graph_of : TypeCode → Option (List Node)
graph_of t = graph_in (out-TypeCode t)

-- two graphs are the same where their roots are alike at every depth, which this depth tells
abbrev pub same_by : Option (List Node) → Option (List Node) → Shape → Shape → Bool
same_by None None s t = like s t
same_by None (Some h) s t = alike_at h s 0
same_by (Some g) None s t = alike_at g t 0
same_by (Some g) (Some h) s t = graphs_alike (length g * length h) g 0 h 0

abbrev pub same : TypeCode → TypeCode → Bool
same a b = same_by (graph_of a) (graph_of b) (shape a) (shape b)

abbrev pub Same : TypeCode → TypeCode → Type 0
Same a b = IsTrue (same a b)

abbrev pub is_alias : {T V A R M : Type 0} → TypeCode-F T V A R M → Bool
is_alias (c.Alias id name item) = true
is_alias l = false

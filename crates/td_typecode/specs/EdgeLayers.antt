-- One layer of a TypeCode that is a node of a graph: edges stand for the TypeCodes that it holds (CORBA's chapter on
-- the interface repository, "TypeCodes"). Members and arms are told by their numbers.
use Rattle.std.specs.Prelude.{ℕ, ℤ, pos, negsuc, ◌+◌, ◌-◌, ◌^◌, nat_lt, nat_eq, Bool, ◌&&◌, if◌then◌else◌, List}
use Rattle.std.specs.Prelude.{[], ◌∷◌, length, drop, slice_index_or, Option, Some, None, unwrap_or}
use Rattle.std.specs.Ordering.{int_eq}
use Rattle.td_cdr.specs.Format.{upwards}
use Rattle.tc_graph.specs.declared.node.Node.{Node}
use Rattle.tc_graph.specs.Nodes.{node_at}
use Rattle.td_typecode.specs.declared.code.TypeCode.{TypeCode-F}
use Rattle.td_typecode.specs.declared.code.TypeCode.TheOpen as c
use Rattle.td_typecode.specs.declared.code.Value.{Value}
use Rattle.td_typecode.specs.declared.code.Any.{Any}
use Rattle.tc_edges.specs.declared.edges.Edge.{Edge}
use Rattle.td_typecode.specs.declared.kinds.CodeKind.{CodeKind}
use Rattle.td_typecode.specs.declared.kinds.CodeKind.TheVariants as kind
use Rattle.tc_edges.specs.Edges.{edge_of}
use Rattle.td_typecode.specs.Kinds.{kind_by_number, all_kinds}
use Rattle.td_typecode.specs.Labels.{label_of}
use Rattle.td_typecode.specs.Same.{label_number}

abbrev pub EdgeLayer : Type 0
EdgeLayer = TypeCode-F Edge Value Any ℕ ℕ

-- ---- the numbers of a node

abbrev pub as_ulong : ℤ → Option ℕ
as_ulong (pos n) = if nat_lt n (2 ^ 32) then Some n else None
as_ulong (negsuc n) = None

-- the first of them, where it is a ulong: a bound, a length, or the index of a default arm
abbrev pub first_ulong : List ℤ → Option ℕ
first_ulong [] = None
first_ulong (z ∷ zs) = as_ulong z

-- the bound or the length of a node; 0 where it has none
abbrev pub bound_of : Node → ℕ
bound_of p = unwrap_or (first_ulong p.numbers) 0

-- the index of the default arm, or -1
abbrev pub default_number : Option ℕ → ℤ
default_number (Some d) = pos d
default_number None = negsuc 0

-- whether an arm is labelled so: the labels stand behind the default index
abbrev pub has_number : List ℤ → ℕ → Value → Bool
has_number numbers k v =
    int_eq (slice_index_or numbers (k + 1) (negsuc 0)) (pos (label_number (label_of v)))

-- ---- the layer

-- one that holds another
abbrev pub with_item : Node → EdgeLayer → Option EdgeLayer
with_item p l = if nat_lt 0 (length p.edges) then Some l else None

-- there is a discriminator, and a label for each arm
abbrev pub is_union : Node → Bool
is_union p = nat_lt 0 (length p.edges) && nat_eq (length p.numbers) (length p.edges)

-- how many arms a union has, the discriminator's edge being the first
abbrev pub arm_count : Node → ℕ
arm_count p = length p.edges - 1

-- edge: those of the node
module _ (p : Node) (edge : ℕ → Edge) where
  abbrev pub kind_layer : CodeKind → Option EdgeLayer
  kind_layer kind.Null = Some c.Null
  kind_layer kind.Void = Some c.Void
  kind_layer kind.Short = Some c.TypeCode::Short
  kind_layer kind.Long = Some c.TypeCode::Long
  kind_layer kind.UShort = Some c.TypeCode::UShort
  kind_layer kind.ULong = Some c.TypeCode::ULong
  kind_layer kind.Boolean = Some c.TypeCode::Boolean
  kind_layer kind.Char = Some c.TypeCode::Char
  kind_layer kind.Octet = Some c.TypeCode::Octet
  kind_layer kind.AnyCode = Some c.AnyCode
  kind_layer kind.Code = Some c.TypeCode::Code
  kind_layer kind.LongLong = Some c.TypeCode::LongLong
  kind_layer kind.ULongLong = Some c.TypeCode::ULongLong
  kind_layer kind.ObjRef = Some (c.TypeCode::ObjRef p.id [])
  kind_layer kind.Str = Some (c.TypeCode::Str (bound_of p))
  kind_layer kind.Enum = Some (c.TypeCode::Enum p.id [] (drop 1 p.names))
  kind_layer kind.Struct = Some (c.TypeCode::Struct p.id [] (upwards 0 (length p.edges)))
  kind_layer kind.Except = Some (c.Except p.id [] (upwards 0 (length p.edges)))
  kind_layer kind.Union =
      if is_union p then Some (c.TypeCode::Union p.id [] (edge 0)
      (default_number (first_ulong p.numbers)) (upwards 0 (arm_count p))) else None
  kind_layer kind.Sequence =
      with_item p (c.Sequence (edge 0) (bound_of p))
  kind_layer kind.Array = with_item p (c.Array (edge 0) (bound_of p))
  kind_layer kind.Alias = with_item p (c.Alias p.id [] (edge 0))

  abbrev pub layer_of_kind : Option CodeKind → Option EdgeLayer
  layer_of_kind (Some k) = kind_layer k
  layer_of_kind None = None

-- none where no TypeCode is such a node
abbrev pub node_layer : List Node → ℕ → Option EdgeLayer
node_layer g i = layer_of_kind (node_at g i) (edge_of g i)
    (kind_by_number all_kinds (node_at g i).kind)

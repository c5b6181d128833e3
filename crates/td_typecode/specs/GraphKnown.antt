-- What a graph's nodes stand for, as it is known of nodes that were read: the layer of each by its kind's number. The
-- labels of a union are values of its discriminator, whose kind is that of its node without aliases.
use Rattle.std.specs.Prelude.{ℕ, ℤ, pos, negsuc, List, [], ◌∷◌, map, Option, Some, None}
use Rattle.tc_graph.specs.declared.node.Node.{Node}
use Rattle.tc_graph.specs.Nodes.{node_at, edge}
use Rattle.tc_graph.specs.Aliases.{bare}
use Rattle.td_typecode.specs.declared.code.TypeCode.TheOpen as c
use Rattle.td_typecode.specs.declared.kinds.CodeKind.{CodeKind}
use Rattle.td_typecode.specs.declared.kinds.CodeKind.TheVariants as kind
use Rattle.td_typecode.specs.Kinds.{kind_by_number, all_kinds}
use Rattle.td_typecode.specs.Known.{MemberNode, ArmNode, Numbers, KnownNode, node_with_layer}
use Rattle.td_typecode.specs.ReadNodes.{value_of_number}

abbrev pub kind_or_null : Option CodeKind → CodeKind
kind_or_null (Some k) = k
kind_or_null None = kind.Null

abbrev pub kind_of_number : ℕ → CodeKind
kind_of_number n = kind_or_null (kind_by_number all_kinds n)

abbrev pub own_name : List (List ℕ) → List ℕ
own_name [] = []
own_name (x ∷ xs) = x

abbrev pub behind_first : {X : Type 0} → List X → List X
behind_first [] = []
behind_first (x ∷ xs) = xs

-- a number of a node that is none below 0
abbrev pub natural : ℤ → ℕ
natural (pos n) = n
natural (negsuc n) = 0

abbrev pub number_or_zero : List ℤ → ℤ
number_or_zero [] = pos 0
number_or_zero (z ∷ zs) = z

-- members by their names and places
abbrev pub members_of : List (List ℕ) → List ℕ → List MemberNode
members_of (n ∷ ns) (e ∷ es) = (n, e) ∷ members_of ns es
members_of ns es = []

-- arms by the numbers of their labels, their names and places; under a discriminator of a kind
abbrev pub arms_of : CodeKind → List ℤ → List (List ℕ) → List ℕ → List ArmNode
arms_of k (z ∷ zs) (n ∷ ns) (e ∷ es) = (value_of_number k (natural z), (n, e)) ∷ arms_of k zs ns es
arms_of k zs ns es = []

-- the layer that a node of a kind stands for; switch: the kind of its discriminator
abbrev pub layer_in : CodeKind → CodeKind → Node → Numbers
layer_in switch kind.Null p = c.Null
layer_in switch kind.Void p = c.Void
layer_in switch kind.Short p = c.TypeCode::Short
layer_in switch kind.Long p = c.TypeCode::Long
layer_in switch kind.UShort p = c.TypeCode::UShort
layer_in switch kind.ULong p = c.TypeCode::ULong
layer_in switch kind.Boolean p = c.TypeCode::Boolean
layer_in switch kind.Char p = c.TypeCode::Char
layer_in switch kind.Octet p = c.TypeCode::Octet
layer_in switch kind.AnyCode p = c.AnyCode
layer_in switch kind.Code p = c.TypeCode::Code
layer_in switch kind.LongLong p = c.TypeCode::LongLong
layer_in switch kind.ULongLong p = c.TypeCode::ULongLong
layer_in switch kind.ObjRef p = c.TypeCode::ObjRef p.id (own_name p.names)
layer_in switch kind.Struct p =
    c.TypeCode::Struct p.id (own_name p.names) (members_of (behind_first p.names) p.edges)
layer_in switch kind.Except p = c.Except p.id (own_name p.names)
    (members_of (behind_first p.names) p.edges)
layer_in switch kind.Union p =
    c.TypeCode::Union p.id (own_name p.names) (edge p 0) (number_or_zero p.numbers)
    (arms_of switch (behind_first p.numbers) (behind_first p.names) (behind_first p.edges))
layer_in switch kind.Enum p = c.TypeCode::Enum p.id (own_name p.names) (behind_first p.names)
layer_in switch kind.Str p = c.TypeCode::Str (natural (number_or_zero p.numbers))
layer_in switch kind.Sequence p = c.Sequence (edge p 0) (natural (number_or_zero p.numbers))
layer_in switch kind.Array p = c.Array (edge p 0) (natural (number_or_zero p.numbers))
layer_in switch kind.Alias p = c.Alias p.id (own_name p.names) (edge p 0)

-- the kind of the discriminator of a union's node
abbrev pub switch_in : List Node → Node → CodeKind
switch_in g p = kind_of_number (node_at g (bare g (edge p 0))).kind

abbrev pub known_in : List Node → Node → KnownNode
known_in g p = node_with_layer (kind_of_number p.kind)
    (layer_in (switch_in g p) (kind_of_number p.kind) p)

abbrev pub known_of : List Node → List KnownNode
known_of g = map (known_in g) g

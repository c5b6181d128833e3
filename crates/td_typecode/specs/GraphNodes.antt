-- The nodes of a TypeCode that was read with indirections, as the nodes of a graph (tc_graph).
use Rattle.std.specs.Prelude.{ℕ, ℤ, pos, List, [], ◌∷◌, ◌++◌, map, Option, Some, None}
use Rattle.tc_graph.specs.declared.node.Node.{Node}
use Rattle.tc_graph.specs.Nodes.{blank}
use Rattle.td_typecode.specs.declared.code.TypeCode.TheOpen as c
use Rattle.td_typecode.specs.Kinds.{number_of}
use Rattle.td_typecode.specs.Labels.{label_of}
use Rattle.td_typecode.specs.Same.{label_number}
use Rattle.td_typecode.specs.Known.{MemberNode, ArmNode, Numbers, KnownNode}

abbrev pub member_name : MemberNode → List ℕ
member_name m = m.0

abbrev pub member_place : MemberNode → ℕ
member_place m = m.1

-- the number that spells an arm's label
abbrev pub arm_number : ArmNode → ℤ
arm_number b = pos (label_number (label_of b.0))

-- of a kind's number
abbrev pub layer_node : ℕ → Numbers → Node
layer_node k (c.TypeCode::ObjRef id name) = record {
  kind = k;
  id = id;
  names = name ∷ [];
  numbers = [];
  edges = [];
}
layer_node k (c.TypeCode::Struct id name members) = record {
  kind = k;
  id = id;
  names = name ∷ map member_name members;
  numbers = [];
  edges = map member_place members;
}
layer_node k (c.Except id name members) = record {
  kind = k;
  id = id;
  names = name ∷ map member_name members;
  numbers = [];
  edges = map member_place members;
}
layer_node k (c.TypeCode::Union id name switch default arms) = record {
  kind = k;
  id = id;
  names = name ∷ map (λ b. member_name b.1) arms;
  numbers = default ∷ map arm_number arms;
  edges = switch ∷ map (λ b. member_place b.1) arms;
}
layer_node k (c.TypeCode::Enum id name names) = record {
  kind = k;
  id = id;
  names = name ∷ names;
  numbers = [];
  edges = [];
}
layer_node k (c.TypeCode::Str bound) = record {
  kind = k;
  id = [];
  names = [];
  numbers = pos bound ∷ [];
  edges = [];
}
layer_node k (c.Sequence item bound) = record {
  kind = k;
  id = [];
  names = [];
  numbers = pos bound ∷ [];
  edges = item ∷ [];
}
layer_node k (c.Array item len) = record {
  kind = k;
  id = [];
  names = [];
  numbers = pos len ∷ [];
  edges = item ∷ [];
}
layer_node k (c.Alias id name item) = record {
  kind = k;
  id = id;
  names = name ∷ [];
  numbers = [];
  edges = item ∷ [];
}
layer_node k l = blank k

abbrev pub node_with : ℕ → Option Numbers → Node
node_with k (Some l) = layer_node k l
node_with k None = blank k

abbrev pub node_of : KnownNode → Node
node_of k = node_with (number_of k.kind) k.layer

-- ---- a node with more

abbrev pub with_names : Node → List (List ℕ) → Node
with_names p names = record {
  kind = p.kind;
  id = p.id;
  names = p.names ++ names;
  numbers = p.numbers;
  edges = p.edges;
}

abbrev pub with_members : Node → List MemberNode → Node
with_members p members = record {
  kind = p.kind;
  id = p.id;
  names = p.names ++ map member_name members;
  numbers = p.numbers;
  edges = p.edges ++ map member_place members;
}

abbrev pub with_arms : Node → List ArmNode → Node
with_arms p arms = record {
  kind = p.kind;
  id = p.id;
  names = p.names ++ map (λ b. member_name b.1) arms;
  numbers = p.numbers ++ map arm_number arms;
  edges = p.edges ++ map (λ b. member_place b.1) arms;
}

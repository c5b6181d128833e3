-- The values under a node of a graph (CORBA's chapter on the General Inter-ORB Protocol, "CDR Transfer Syntax", on
-- constructed types): along its edges, each indirection that is passed being a level.
use Rattle.std.specs.Prelude.{ℕ, zero, suc, ◌+◌, List, length, drop, Option, Some, None, refl}
use Rattle.td_cdr.specs.declared.value_fault.ValueFault.{ValueFault}
use Rattle.td_cdr.specs.declared.value_fault.ValueFault.TheVariants as fault
use Rattle.td_cdr.specs.Format.{upwards}
use Rattle.td_cdr.specs.Sound.{Sound, constant, failure}
use Rattle.tc_graph.specs.declared.node.Node.{Node}
use Rattle.tc_graph.specs.Nodes.{node_at}
use Rattle.td_typecode.specs.declared.code.TypeCode.{TypeCode}
use Rattle.td_typecode.specs.declared.code.Value.{Value}
use Rattle.td_typecode.specs.declared.code.Any.{Any}
use Rattle.tc_edges.specs.declared.edges.Edge.{Edge}
use Rattle.td_typecode.specs.declared.code.Value.TheVariants as value
use Rattle.td_typecode.specs.declared.kinds.CodeKind.{CodeKind}
use Rattle.td_typecode.specs.declared.kinds.CodeKind.TheVariants as kind
use Rattle.tc_edges.specs.Edges.{edge_of}
use Rattle.td_typecode.specs.Kinds.{number_of}
use Rattle.td_typecode.specs.Labels.{no_value, one_of, short_value, long_value, ushort_value, ulong_value}
use Rattle.td_typecode.specs.Labels.{longlong_value}
use Rattle.td_typecode.specs.Labels.{ulonglong_value, boolean_value, char_value, octet_value}
use Rattle.td_typecode.specs.EdgeLayers.{EdgeLayer, node_layer, bound_of, has_number, first_ulong, arm_count}
use Rattle.td_typecode.specs.NodeLabels.{along, node_labels}
use Rattle.td_typecode.specs.ValueLayers.{LayerParts, layer, branch_labelled, string_value, reference_value}

-- the edge of number 0 of a union leads to its discriminator
abbrev pub node_parts : ℕ → List Node → ℕ → LayerParts Edge ℕ ℕ
node_parts levels graph i = record {
  labels = node_labels graph levels;
  plain = λ n e v order place. refl;
  member_code = edge_of graph i;
  arm_code = λ k. edge_of graph i (k + 1);
  has_label = has_number (node_at graph i).numbers;
}

-- the arm of a union's node that a label chooses: the first one but the default that has the label, or else the default
abbrev pub chosen_arm : Node → Value → Option ℕ
chosen_arm p label =
    branch_labelled (has_number p.numbers) (first_ulong p.numbers) label (upwards 0 (arm_count p))

-- levels: how many an any may have in a value, behind: what stands behind an indirection
module _ (levels : ℕ) (any : Sound ValueFault Any) (code : Sound ValueFault TypeCode)
    (graph : List Node) (behind : ℕ → Sound ValueFault Value) where
  -- of the node at place i, with what stands behind its edges
  abbrev pub value_of_node : ℕ → (Edge → Sound ValueFault Value) → ℕ → Option EdgeLayer
      → Sound ValueFault Value
  value_of_node i inner n (Some l) =
      layer (node_parts levels graph i) any code inner (λ g. failure no_value) n l
  value_of_node i inner n None = failure no_value

  -- at a node, from which edges that are no indirections lead so deep at most
  unfoldable pub value_at_node : ℕ → ℕ → Sound ValueFault Value
  value_at_node zero i = failure no_value
  value_at_node (suc n) i = value_of_node i (along behind (value_at_node n)) n (node_layer graph i)

-- the values under a node of a kind that holds no other TypeCode
abbrev pub leaf_values : Node → CodeKind → Sound ValueFault Value
leaf_values p kind.Null = constant value.Empty
leaf_values p kind.Void = constant value.Empty
leaf_values p kind.Short = short_value
leaf_values p kind.Long = long_value
leaf_values p kind.UShort = ushort_value
leaf_values p kind.ULong = ulong_value
leaf_values p kind.Boolean = boolean_value
leaf_values p kind.Char = char_value
leaf_values p kind.Octet = octet_value
leaf_values p kind.LongLong = longlong_value
leaf_values p kind.ULongLong = ulonglong_value
leaf_values p kind.Str = string_value (bound_of p)
leaf_values p kind.ObjRef = reference_value
leaf_values p kind.Enum = one_of (length (drop 1 p.names))
leaf_values p kind.Except = failure (λ a. fault.Unsupported (number_of kind.Except))
leaf_values p k = failure no_value

-- The format of values under a TypeCode, and of anys (CORBA's chapter on the General Inter-ORB Protocol,
-- "CDR Transfer Syntax", on constructed types and on any).
use Rattle.std.specs.Prelude.{ℕ, zero, suc, Bool, List, Option, refl}
use Rattle.td_cdr.specs.Format.{Piece}
use Rattle.td_cdr.specs.Sound.{Sound, FormatArm as Arm_of, pair_on, structure, failure}
use Rattle.td_cdr.specs.declared.value_fault.ValueFault.{ValueFault}
use Rattle.td_typecode.specs.declared.code.TypeCode.{TypeCode, out-TypeCode}
use Rattle.td_typecode.specs.declared.code.Value.{Value}
use Rattle.td_typecode.specs.declared.code.Arm.{Arm}
use Rattle.td_typecode.specs.declared.code.Any.{Any}
use Rattle.td_typecode.specs.declared.code.Member.{Member}
use Rattle.tc_edges.specs.declared.edges.Edge.{Edge}
use Rattle.td_typecode.specs.declared.kinds.CodeKind.{CodeKind}
use Rattle.tc_graph.specs.declared.node.Node.{Node}
use Rattle.td_typecode.specs.Labels.{Layer, ValueLayer, no_value, labels, label_of, same_label}
use Rattle.tc_graph.specs.Nodes.{node_at}
use Rattle.tc_edges.specs.Edges.{edge_of}
use Rattle.td_typecode.specs.NodeLabels.{most_levels, too_deep, along}
use Rattle.td_typecode.specs.EdgeLayers.{kind_layer}
use Rattle.td_typecode.specs.NodeValues.{node_parts, value_of_node, value_at_node}
use Rattle.td_typecode.specs.Outermost.{outer}
use Rattle.td_typecode.specs.ValueLayers.{LayerParts, first_labelled, branch_labelled, is_chosen_by, discriminator}
pub use Rattle.td_typecode.specs.ValueLayers.{fits, index_of, is_default, default_arm, or_else, text_in, any_in}
pub use Rattle.td_typecode.specs.ValueLayers.{code_in}
pub use Rattle.td_typecode.specs.ValueLayers.{reference_in, struct_in, items_in, label_in, arm_in, bounded_text}
pub use Rattle.td_typecode.specs.ValueLayers.{count_within}
use Rattle.td_typecode.specs.ValueLayers as over

-- ---- the layers of TypeCodes

abbrev pub code_parts : LayerParts TypeCode Arm Member
code_parts = record {
  labels = labels;
  plain = λ n t v order place. refl;
  member_code = λ m. m.code;
  arm_code = λ a. a.code;
  has_label = λ a v. same_label (label_of a.label) (label_of v);
}

-- whether the arm at index i is chosen by its label
abbrev pub is_chosen : Option ℕ → Value → ℕ → Arm → Bool
is_chosen = is_chosen_by code_parts.has_label

abbrev pub first_arm : Option ℕ → Value → ℕ → List Arm → Option Arm
first_arm = first_labelled code_parts.has_label

abbrev pub branch_of : Option ℕ → Value → List Arm → Option Arm
branch_of = branch_labelled code_parts.has_label

module _ (any : Sound ValueFault Any) (code : Sound ValueFault TypeCode)
    (inner : TypeCode → Sound ValueFault Value) where
  abbrev pub each : List Member → Sound ValueFault (List Value)
  each = over.each code_parts any code inner

  abbrev pub branch : Value → Option Arm → Arm_of ValueFault Value Value discriminator
  branch = over.branch code_parts any code inner

  abbrev pub branch_piece : Option Arm → Option Value → Piece
  branch_piece = over.branch_piece code_parts any code inner

  abbrev pub union_piece : Option ℕ → List Arm → ValueLayer → Piece
  union_piece = over.union_piece code_parts any code inner

  abbrev pub union_value : ℕ → TypeCode → Option ℕ → List Arm → Sound ValueFault Value
  union_value = over.union_value code_parts any code inner

  abbrev pub struct_value : List Member → Sound ValueFault Value
  struct_value = over.struct_value code_parts any code inner

  abbrev pub items_piece : TypeCode → List Value → Piece
  items_piece = over.items_piece code_parts any code inner

  abbrev pub sequence_piece : TypeCode → List Value → Piece
  sequence_piece = over.sequence_piece code_parts any code inner

  abbrev pub sequence_value : TypeCode → ℕ → Sound ValueFault Value
  sequence_value = over.sequence_value code_parts any code inner

  abbrev pub array_value : TypeCode → ℕ → Sound ValueFault Value
  array_value = over.array_value code_parts any code inner

  -- graphs: the values under a graph
  abbrev pub layer : (List Node → Sound ValueFault Value) → ℕ → Layer → Sound ValueFault Value
  layer = over.layer code_parts any code inner

-- a value under a TypeCode of at most so many levels
unfoldable pub values : Sound ValueFault Any → Sound ValueFault TypeCode
    → (List Node → Sound ValueFault Value) → ℕ → TypeCode → Sound ValueFault Value
values any code graphs zero t = failure no_value
values any code graphs (suc n) t =
    layer any code (values any code graphs n) graphs n (out-TypeCode t)

abbrev pub any_of : Sound ValueFault TypeCode → (TypeCode → Sound ValueFault Value)
    → Sound ValueFault Any
any_of code value =
    structure (λ p. record { code = p.0; value = p.1 }) (λ a. (a.code, a.value)) (λ _. refl)
    (λ _. refl) (pair_on code value)

-- ---- levels

-- what so many levels are left for: an any, and what stands behind an indirection to a node of a graph
pub record LevelsLeft : Type 1 where
  pub any : Sound ValueFault Any
  pub behind : List Node → ℕ → Sound ValueFault Value

abbrev none_left : LevelsLeft
none_left = record {
  any = any_of (outer zero) (λ t. failure no_value);
  behind = λ graph i. failure too_deep;
}

-- one level more; what stands in a value has one less
abbrev one_more : ℕ → LevelsLeft → LevelsLeft
one_more levels less = let under : List Node → ℕ → Sound ValueFault Value =
    λ graph. value_at_node levels less.any (outer levels) graph (less.behind graph) most_levels in
    record {
      any = any_of (outer (suc levels))
          (values less.any (outer levels) (λ graph. under graph 0) (suc levels));
      behind = under;
    }

unfoldable pub left : ℕ → LevelsLeft
left zero = none_left
left (suc levels) = one_more levels (left levels)

-- an any of at most so many levels
abbrev pub anys : ℕ → Sound ValueFault Any
anys levels = (left levels).any

-- what stands behind an indirection, where so many levels are left
abbrev pub behind : ℕ → List Node → ℕ → Sound ValueFault Value
behind levels = (left levels).behind

-- a value in which an any may have so many levels, under a node from which edges that are no indirections lead so deep
-- at most
abbrev pub node_values : ℕ → List Node → ℕ → ℕ → Sound ValueFault Value
node_values levels graph =
    value_at_node levels (anys levels) (outer levels) graph (behind levels graph)

-- behind an edge
abbrev pub edge_values : ℕ → List Node → ℕ → Edge → Sound ValueFault Value
edge_values levels graph n = along (behind levels graph) (node_values levels graph n)

-- under a graph
abbrev pub graph_values : ℕ → List Node → Sound ValueFault Value
graph_values levels graph = node_values levels graph most_levels 0

-- under a TypeCode of at most so many levels
abbrev pub code_values : ℕ → ℕ → TypeCode → Sound ValueFault Value
code_values levels = values (anys levels) (outer levels) (graph_values levels)

-- ---- under a node of a graph

module _ (levels : ℕ) (graph : List Node) (n i : ℕ) where
  -- of this kind
  abbrev pub node_kind : CodeKind → Sound ValueFault Value
  node_kind k = value_of_node levels (anys levels) (outer levels) graph (behind levels graph) i
      (edge_values levels graph n) n (kind_layer (node_at graph i) (edge_of graph i) k)

  abbrev pub node_each : List ℕ → Sound ValueFault (List Value)
  node_each = over.each (node_parts levels graph i) (anys levels) (outer levels)
      (edge_values levels graph n)

  abbrev pub node_branch : Value → Option ℕ → Arm_of ValueFault Value Value discriminator
  node_branch = over.branch (node_parts levels graph i) (anys levels) (outer levels)
      (edge_values levels graph n)

  abbrev pub node_branch_piece : Option ℕ → Option Value → Piece
  node_branch_piece = over.branch_piece (node_parts levels graph i) (anys levels) (outer levels)
      (edge_values levels graph n)

-- an any as it stands in a body, at level 1 of 16
abbrev pub any_value : Sound ValueFault Any
any_value = anys 16

-- A union's discriminator where the union is a node of a graph. Each indirection that is passed on the way through
-- aliases counts as a level.
use Rattle.std.specs.Prelude.{◌≡◌, ℕ, zero, suc, Bool, true, false, List, Option, Some, None}
use Rattle.td_cdr.specs.declared.order.Order.{Order}
use Rattle.td_cdr.specs.declared.value_fault.ValueFault.{ValueFault}
use Rattle.td_cdr.specs.declared.value_fault.ValueFault.TheVariants as fault
use Rattle.td_cdr.specs.Place.{At}
use Rattle.td_cdr.specs.Sound.{Sound, failure, either, other_writing}
use Rattle.tc_graph.specs.declared.node.Node.{Node}
use Rattle.td_typecode.specs.declared.code.Value.{Value}
use Rattle.tc_graph.specs.Nodes.{node_at}
use Rattle.tc_edges.specs.declared.edges.Edge.{Edge}
use Rattle.td_typecode.specs.declared.kinds.CodeKind.{CodeKind}
use Rattle.tc_edges.specs.Edges.{edge_of}
use Rattle.td_typecode.specs.Labels.{no_value, label_layer, label_layer-plain, plain_piece}
use Rattle.td_typecode.specs.EdgeLayers.{EdgeLayer, node_layer, kind_layer}

-- how deep edges that are no indirections lead at most, with the node that they begin at
abbrev pub most_levels : ℕ
most_levels = 16

-- an indirection is passed where no level is left: where the value begins
abbrev pub too_deep : At → ValueFault
too_deep a = fault.Depth a.place

abbrev pub WritesPlainly : Sound ValueFault Value → Type 0
WritesPlainly g = (v : Value) (order : Order) (place : ℕ) → g.format.admits v
    → g.format.writes v order place ≡ plain_piece v order place

abbrev pub label_of_node : (Edge → Sound ValueFault Value) → Option EdgeLayer
    → Sound ValueFault Value
label_of_node inner (Some l) = label_layer inner l
label_of_node inner None = failure no_value

-- behind an edge: behind is what stands behind an indirection, here what stands behind another edge
abbrev pub along : (behind here : ℕ → Sound ValueFault Value) → Edge → Sound ValueFault Value
along behind here e = either e.is_indirection (behind e.place) (here e.place)

-- at a node, from which edges that are no indirections lead so deep at most
unfoldable pub label_at_node : List Node → (ℕ → Sound ValueFault Value) → ℕ → ℕ
    → Sound ValueFault Value
label_at_node graph behind zero i = failure no_value
label_at_node graph behind (suc n) i =
    label_of_node (along behind (label_at_node graph behind n)) (node_layer graph i)

-- at a node behind an indirection, where so many levels are left, this one counted
unfoldable pub label_behind : List Node → ℕ → ℕ → Sound ValueFault Value
label_behind graph zero i = failure too_deep
label_behind graph (suc levels) i = label_at_node graph (label_behind graph levels) most_levels i

either-plain : (b : Bool) (g k : Sound ValueFault Value) → WritesPlainly g → WritesPlainly k
    → WritesPlainly (either b g k)
either-plain true g k p q = p
either-plain false g k p q = q

along-plain : (behind here : ℕ → Sound ValueFault Value) → ((i : ℕ) → WritesPlainly (behind i))
    → ((i : ℕ) → WritesPlainly (here i)) → (e : Edge) → WritesPlainly (along behind here e)
along-plain behind here b h e =
    either-plain e.is_indirection (behind e.place) (here e.place) (b e.place) (h e.place)

of_node-plain : (inner : Edge → Sound ValueFault Value) → ((e : Edge) → WritesPlainly (inner e))
    → (l : Option EdgeLayer) → WritesPlainly (label_of_node inner l)
of_node-plain inner p (Some l) = label_layer-plain inner p l
of_node-plain inner p None = λ v order place ok. absurd ok

at_node-plain : (graph : List Node) (behind : ℕ → Sound ValueFault Value)
    → ((i : ℕ) → WritesPlainly (behind i)) → (n i : ℕ)
    → WritesPlainly (label_at_node graph behind n i)
unfolding label_at_node
at_node-plain graph behind b zero i = λ v order place ok. absurd ok
at_node-plain graph behind b (suc n) i =
    of_node-plain (along behind (label_at_node graph behind n))
    (along-plain behind (label_at_node graph behind n) b (at_node-plain graph behind b n))
    (node_layer graph i)

behind-plain : (graph : List Node) (levels i : ℕ) → WritesPlainly (label_behind graph levels i)
unfolding label_behind
behind-plain graph zero i = λ v order place ok. absurd ok
behind-plain graph (suc levels) i =
    at_node-plain graph (label_behind graph levels) (behind-plain graph levels) most_levels i

abbrev pub spelled_label : List Node → ℕ → ℕ → Edge → Sound ValueFault Value
spelled_label graph levels n =
    along (label_behind graph levels) (label_at_node graph (label_behind graph levels) n)

pub label-plain : (graph : List Node) (levels n : ℕ) (e : Edge)
    → WritesPlainly (spelled_label graph levels n e)
label-plain graph levels n =
    along-plain (label_behind graph levels) (label_at_node graph (label_behind graph levels) n)
    (behind-plain graph levels)
    (at_node-plain graph (label_behind graph levels) (behind-plain graph levels) n)

-- behind an edge of a union's node, from which edges that are no indirections lead so deep at most
abbrev pub node_labels : List Node → ℕ → ℕ → Edge → Sound ValueFault Value
node_labels graph levels n e =
    other_writing plain_piece (spelled_label graph levels n e) (label-plain graph levels n e)

-- at a node of this kind
abbrev pub label_of_kind : List Node → ℕ → ℕ → ℕ → CodeKind → Sound ValueFault Value
label_of_kind graph levels n i k =
    label_of_node (spelled_label graph levels n) (kind_layer (node_at graph i) (edge_of graph i) k)

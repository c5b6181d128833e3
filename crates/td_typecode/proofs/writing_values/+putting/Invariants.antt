use Rattle.std.proofs.Common.{◌≡◌, ◌+◌, ◌*◌, ◌++◌, length, map, take}
use Rattle.td_cdr.specs.Format.{row}
use Rattle.td_typecode.specs.Values.{code_values, edge_values}
use Rattle.td_typecode.proofs.AtLayers.{member_pairs}
use Rattle.td_typecode.proofs.NodeKinds.{field_piece, member_values}
use Rattle.td_typecode.proofs.writing_values.+putting.Given as goal

abbrev pub decreases-put_any : goal.decreases-put_any
decreases-put_any l = 300 * l.levels

abbrev pub decreases-put_any_in : goal.decreases-put_any_in
decreases-put_any_in l = 300 * l.levels + 1

abbrev pub decreases-put_value : goal.decreases-put_value
decreases-put_value l = 300 * l.levels + 150 + 4 * l.depth + 2

abbrev pub decreases-put_fields : goal.decreases-put_fields
decreases-put_fields l = 300 * l.levels + 150 + 4 * l.depth + 3

abbrev pub decreases-put_branch : goal.decreases-put_branch
decreases-put_branch l = 300 * l.levels + 150 + 4 * l.depth + 3

abbrev pub decreases-put_items : goal.decreases-put_items
decreases-put_items l = 300 * l.levels + 150 + 4 * l.depth + 3

abbrev pub decreases-put_struct : goal.decreases-put_struct
decreases-put_struct l = 300 * l.levels + 150 + 4 * l.depth + 4

abbrev pub decreases-put_union : goal.decreases-put_union
decreases-put_union l = 300 * l.levels + 150 + 4 * l.depth + 4

abbrev pub decreases-put_count_and_items : goal.decreases-put_count_and_items
decreases-put_count_and_items l = 300 * l.levels + 150 + 4 * l.depth + 4

abbrev pub decreases-put_array : goal.decreases-put_array
decreases-put_array l = 300 * l.levels + 150 + 4 * l.depth + 4

abbrev pub decreases-put_sequence : goal.decreases-put_sequence
decreases-put_sequence l = 300 * l.levels + 150 + 4 * l.depth + 5

abbrev pub invariant-put_items-loop-value : goal.invariant-put_items-loop-value
invariant-put_items-loop-value l = record {
  bytes : l.w.bytes ≡ l.initial.w.bytes
      ++ row (map (code_values l.levels l.depth l.item).format.writes
      (take l.value-index l.items))
      l.initial.w.order (length l.initial.w.bytes);
  order : l.w.order ≡ l.initial.w.order;
}

abbrev pub invariant-put_fields-loop-i : goal.invariant-put_fields-loop-i
invariant-put_fields-loop-i l = record {
  bytes : l.w.bytes ≡ l.initial.w.bytes
      ++ row (map (λ p. (code_values l.levels l.depth p.0).format.writes p.1)
      (take l.i (member_pairs l.members l.held)))
      l.initial.w.order (length l.initial.w.bytes);
  order : l.w.order ≡ l.initial.w.order;
}

abbrev pub decreases-put_graph : goal.decreases-put_graph
decreases-put_graph l = 300 * l.levels + 140

abbrev pub decreases-put_node : goal.decreases-put_node
decreases-put_node l = 300 * l.levels + 8 * l.depth + 1

abbrev pub decreases-put_along : goal.decreases-put_along
decreases-put_along l = 300 * l.levels + 8 * l.depth + 2

abbrev pub decreases-put_node_branch : goal.decreases-put_node_branch
decreases-put_node_branch l = 300 * l.levels + 8 * l.depth + 3

abbrev pub decreases-put_items_along : goal.decreases-put_items_along
decreases-put_items_along l = 300 * l.levels + 8 * l.depth + 3

abbrev pub decreases-put_node_fields : goal.decreases-put_node_fields
decreases-put_node_fields l = 300 * l.levels + 8 * l.depth + 3

abbrev pub decreases-put_node_struct : goal.decreases-put_node_struct
decreases-put_node_struct l = 300 * l.levels + 8 * l.depth + 4

abbrev pub decreases-put_node_union : goal.decreases-put_node_union
decreases-put_node_union l = 300 * l.levels + 8 * l.depth + 4

abbrev pub decreases-put_node_sequence : goal.decreases-put_node_sequence
decreases-put_node_sequence l = 300 * l.levels + 8 * l.depth + 4

abbrev pub decreases-put_node_array : goal.decreases-put_node_array
decreases-put_node_array l = 300 * l.levels + 8 * l.depth + 4

abbrev pub decreases-put_node_alias : goal.decreases-put_node_alias
decreases-put_node_alias l = 300 * l.levels + 8 * l.depth + 4

abbrev pub decreases-put_node_kind : goal.decreases-put_node_kind
decreases-put_node_kind l = 300 * l.levels + 8 * l.depth + 5

abbrev pub invariant-put_items_along-loop-value : goal.invariant-put_items_along-loop-value
invariant-put_items_along-loop-value l = record {
  bytes : l.w.bytes ≡ l.initial.w.bytes
      ++ row (map (edge_values l.levels l.graph l.depth l.edge).format.writes (take l.value-index l.items))
      l.initial.w.order (length l.initial.w.bytes);
  order : l.w.order ≡ l.initial.w.order;
}

abbrev pub invariant-put_node_fields-loop-i : goal.invariant-put_node_fields-loop-i
invariant-put_node_fields-loop-i l = record {
  bytes : l.w.bytes ≡ l.initial.w.bytes
      ++ row (map (field_piece l.levels l.graph l.depth l.place)
      (take l.i (member_values l.levels l.graph l.depth l.place l.held)))
      l.initial.w.order (length l.initial.w.bytes);
  order : l.w.order ≡ l.initial.w.order;
}

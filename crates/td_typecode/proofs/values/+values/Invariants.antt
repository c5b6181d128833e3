use Rattle.std.proofs.Common.{◌≡◌, ◌+◌, ◌-◌, ◌*◌, drop}
use Rattle.td_cdr.specs.Format.{array_format}
use Rattle.td_typecode.specs.Outermost.{outer}
use Rattle.td_typecode.specs.Values.{anys, code_values, edge_values, each}
use Rattle.td_cdr.proofs.SequenceReading.{with_front}
use Rattle.td_typecode.proofs.NodeKinds.{from_member, all_of_them}
use Rattle.td_typecode.proofs.values.+values.Given as goal

abbrev pub decreases-any_at : goal.decreases-any_at
decreases-any_at l = 300 * l.levels

abbrev pub decreases-value_at : goal.decreases-value_at
decreases-value_at l = 300 * l.levels + 150 + 4 * l.depth + 1

abbrev pub decreases-inner_any_at : goal.decreases-inner_any_at
decreases-inner_any_at l = 300 * l.levels + 1

abbrev pub decreases-boxed_value_at : goal.decreases-boxed_value_at
decreases-boxed_value_at l = 300 * l.levels + 150 + 4 * l.depth + 2

abbrev pub decreases-branch_at : goal.decreases-branch_at
decreases-branch_at l = 300 * l.levels + 150 + 4 * l.depth + 3

abbrev pub decreases-each_at : goal.decreases-each_at
decreases-each_at l = 300 * l.levels + 150 + 4 * l.depth + 2

abbrev pub decreases-items_at : goal.decreases-items_at
decreases-items_at l = 300 * l.levels + 150 + 4 * l.depth + 2

abbrev pub invariant-items_at-loop : goal.invariant-items_at-loop
invariant-items_at-loop l =
    let g = (code_values l.levels l.depth l.item).format in
    with_front l.values ((array_format g (l.count - l.counter)).reads l.r) ≡ (array_format g l.count).reads l.initial.r

abbrev pub invariant-each_at-loop-member : goal.invariant-each_at-loop-member
invariant-each_at-loop-member l =
    with_front l.values ((each (anys l.levels) (outer l.levels)
    (code_values l.levels l.depth) (drop l.member-index l.members)).format.reads
    l.r)
    ≡ (each (anys l.levels) (outer l.levels) (code_values l.levels l.depth)
    l.members).format.reads
    l.initial.r

abbrev pub decreases-struct_at : goal.decreases-struct_at
decreases-struct_at l = 300 * l.levels + 150 + 4 * l.depth + 3

abbrev pub decreases-union_at : goal.decreases-union_at
decreases-union_at l = 300 * l.levels + 150 + 4 * l.depth + 4

abbrev pub decreases-sequence_at : goal.decreases-sequence_at
decreases-sequence_at l = 300 * l.levels + 150 + 4 * l.depth + 3

abbrev pub decreases-array_at : goal.decreases-array_at
decreases-array_at l = 300 * l.levels + 150 + 4 * l.depth + 3

abbrev pub decreases-graph_at : goal.decreases-graph_at
decreases-graph_at l = 300 * l.levels + 140

abbrev pub decreases-node_at : goal.decreases-node_at
decreases-node_at l = 300 * l.levels + 8 * l.depth + 1

abbrev pub decreases-along_at : goal.decreases-along_at
decreases-along_at l = 300 * l.levels + 8 * l.depth + 2

abbrev pub decreases-boxed_along_at : goal.decreases-boxed_along_at
decreases-boxed_along_at l = 300 * l.levels + 8 * l.depth + 3

abbrev pub decreases-items_along_at : goal.decreases-items_along_at
decreases-items_along_at l = 300 * l.levels + 8 * l.depth + 3

abbrev pub decreases-node_struct_at : goal.decreases-node_struct_at
decreases-node_struct_at l = 300 * l.levels + 8 * l.depth + 4

abbrev pub decreases-node_union_at : goal.decreases-node_union_at
decreases-node_union_at l = 300 * l.levels + 8 * l.depth + 5

abbrev pub decreases-node_sequence_at : goal.decreases-node_sequence_at
decreases-node_sequence_at l = 300 * l.levels + 8 * l.depth + 4

abbrev pub decreases-node_array_at : goal.decreases-node_array_at
decreases-node_array_at l = 300 * l.levels + 8 * l.depth + 4

abbrev pub decreases-node_alias_at : goal.decreases-node_alias_at
decreases-node_alias_at l = 300 * l.levels + 8 * l.depth + 4

abbrev pub decreases-node_kind_at : goal.decreases-node_kind_at
decreases-node_kind_at l = 300 * l.levels + 8 * l.depth + 6

abbrev pub invariant-items_along_at-loop : goal.invariant-items_along_at-loop
invariant-items_along_at-loop l =
    let g = (edge_values l.levels l.graph l.depth l.edge).format in
    with_front l.values ((array_format g (l.count - l.counter)).reads l.r) ≡ (array_format g l.count).reads l.initial.r

abbrev pub invariant-node_struct_at-loop-member : goal.invariant-node_struct_at-loop-member
invariant-node_struct_at-loop-member l =
    from_member l.levels l.graph l.depth l.place l.values l.member l.r
    ≡ all_of_them l.levels l.graph l.depth l.place l.initial.r

abbrev pub decreases-node_branch_at : goal.decreases-node_branch_at
decreases-node_branch_at l = 300 * l.levels + 8 * l.depth + 4

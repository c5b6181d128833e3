use Rattle.std.proofs.Common.{◌≡◌, ◌+◌, ◌-◌, ◌*◌}
use Rattle.td_indirection.specs.Choices.{array}
use Rattle.td_typecode.specs.GraphCodes.{edges, member_node, arm_node}
use Rattle.td_typecode.specs.NodeReading.{discriminator_label}
use Rattle.td_typecode.proofs.GraphParts.{with_front_on}
use Rattle.td_typecode.proofs.graph_reading.+graph_reading.Given as goal

abbrev pub decreases-edge_at : goal.decreases-edge_at
decreases-edge_at l = 11 * l.levels + 0

abbrev pub decreases-inner_at : goal.decreases-inner_at
decreases-inner_at l = 11 * l.levels + 1

abbrev pub decreases-front_at : goal.decreases-front_at
decreases-front_at l = 11 * l.levels + 1

abbrev pub decreases-member_at : goal.decreases-member_at
decreases-member_at l = 11 * l.levels + 2

abbrev pub decreases-arm_at : goal.decreases-arm_at
decreases-arm_at l = 11 * l.levels + 3

abbrev pub decreases-members_of : goal.decreases-members_of
decreases-members_of l = 11 * l.levels + 3

abbrev pub decreases-members_at : goal.decreases-members_at
decreases-members_at l = 11 * l.levels + 4

abbrev pub decreases-arms_of : goal.decreases-arms_of
decreases-arms_of l = 11 * l.levels + 4

abbrev pub decreases-fields_at : goal.decreases-fields_at
decreases-fields_at l = 11 * l.levels + 5

abbrev pub decreases-choices_at : goal.decreases-choices_at
decreases-choices_at l = 11 * l.levels + 5

abbrev pub decreases-union_at : goal.decreases-union_at
decreases-union_at l = 11 * l.levels + 6

abbrev pub decreases-struct_at : goal.decreases-struct_at
decreases-struct_at l = 11 * l.levels + 6

abbrev pub decreases-except_at : goal.decreases-except_at
decreases-except_at l = 11 * l.levels + 6

abbrev pub decreases-sequence_at : goal.decreases-sequence_at
decreases-sequence_at l = 11 * l.levels + 6

abbrev pub decreases-array_at : goal.decreases-array_at
decreases-array_at l = 11 * l.levels + 6

abbrev pub decreases-alias_at : goal.decreases-alias_at
decreases-alias_at l = 11 * l.levels + 6

abbrev pub decreases-enclosed_at : goal.decreases-enclosed_at
decreases-enclosed_at l = 11 * l.levels + 7

abbrev pub decreases-within_at : goal.decreases-within_at
decreases-within_at l = 11 * l.levels + 8

abbrev pub decreases-layer_at : goal.decreases-layer_at
decreases-layer_at l = 11 * l.levels + 9

abbrev pub decreases-node_at : goal.decreases-node_at
decreases-node_at l = 11 * l.levels + 10

abbrev pub invariant-members_of-loop : goal.invariant-members_of-loop
invariant-members_of-loop l =
    let t = member_node (edges l.levels) in
    with_front_on l.members ((array t (l.count - l.counter)).format.reads l.g.state l.g.at)
    ≡ (array t l.count).format.reads l.initial.g.state l.initial.g.at

abbrev pub invariant-arms_of-loop : goal.invariant-arms_of-loop
invariant-arms_of-loop l =
    let t = arm_node (edges l.levels) (discriminator_label l.labels) in
    with_front_on l.arms ((array t (l.count - l.counter)).format.reads l.g.state l.g.at)
    ≡ (array t l.count).format.reads l.initial.g.state l.initial.g.at

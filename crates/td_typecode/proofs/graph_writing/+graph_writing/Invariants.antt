use Rattle.std.proofs.Common.{◌+◌, ◌*◌}
use Rattle.td_typecode.specs.GraphKnown.{known_of, behind_first, members_of}
use Rattle.td_typecode.specs.NodeWriting.{edge_placed, row_of_members, row_of_arms, arms_in}
use Rattle.td_typecode.proofs.PlacedWriting.{Leaves, members_from, arms_from}
use Rattle.td_typecode.proofs.graph_writing.+graph_writing.Given as goal

abbrev pub decreases-write_edge : goal.decreases-write_edge
decreases-write_edge l = 10 * l.at.levels + 1

abbrev pub decreases-write_node : goal.decreases-write_node
decreases-write_node l = 10 * l.at.levels + 0

abbrev pub decreases-write_member : goal.decreases-write_member
decreases-write_member l = 10 * l.at.levels + 2

abbrev pub decreases-write_front : goal.decreases-write_front
decreases-write_front l = 10 * l.at.levels + 2

abbrev pub decreases-write_items : goal.decreases-write_items
decreases-write_items l = 10 * l.at.levels + 2

abbrev pub decreases-write_each_member : goal.decreases-write_each_member
decreases-write_each_member l = 10 * l.at.levels + 3

abbrev pub decreases-write_each_arm : goal.decreases-write_each_arm
decreases-write_each_arm l = 10 * l.at.levels + 3

abbrev pub decreases-write_members : goal.decreases-write_members
decreases-write_members l = 10 * l.at.levels + 4

abbrev pub decreases-write_arms : goal.decreases-write_arms
decreases-write_arms l = 10 * l.at.levels + 4

abbrev pub decreases-write_fields : goal.decreases-write_fields
decreases-write_fields l = 10 * l.at.levels + 5

abbrev pub decreases-write_union : goal.decreases-write_union
decreases-write_union l = 10 * l.at.levels + 5

abbrev pub decreases-write_inside : goal.decreases-write_inside
decreases-write_inside l = 10 * l.at.levels + 6

abbrev pub decreases-write_enclosed : goal.decreases-write_enclosed
decreases-write_enclosed l = 10 * l.at.levels + 7

abbrev pub decreases-write_parameters : goal.decreases-write_parameters
decreases-write_parameters l = 10 * l.at.levels + 8

abbrev pub invariant-write_each_member-loop-index : goal.invariant-write_each_member-loop-index
invariant-write_each_member-loop-index l =
    let inner = edge_placed l.at.levels (known_of l.graph) in
    Leaves (row_of_members inner (members_from l.index l.node))
    (row_of_members inner (members_of (behind_first l.node.names) l.node.edges)) l.at.base l.initial.places l.places
    l.initial.w l.w

abbrev pub invariant-write_each_arm-loop-index : goal.invariant-write_each_arm-loop-index
invariant-write_each_arm-loop-index l =
    let inner = edge_placed l.at.levels (known_of l.graph) in
    Leaves (row_of_arms inner (arms_from l.switch l.index l.node)) (row_of_arms inner (arms_in l.switch l.node))
    l.at.base l.initial.places l.places l.initial.w l.w

use Rattle.std.proofs.Common.{◌+◌, ◌*◌}
use Rattle.td_typecode.proofs.node_labels.+node_label.Given as goal

abbrev pub decreases-label_of_node_at : goal.decreases-label_of_node_at
decreases-label_of_node_at l = 100 * l.levels + 4 * l.depth + 0

abbrev pub decreases-node_label_at : goal.decreases-node_label_at
decreases-node_label_at l = 100 * l.levels + 4 * l.depth + 1

abbrev pub decreases-label_of_alias_at : goal.decreases-label_of_alias_at
decreases-label_of_alias_at l = 100 * l.levels + 4 * l.depth + 2

abbrev pub decreases-label_of_kind_at : goal.decreases-label_of_kind_at
decreases-label_of_kind_at l = 100 * l.levels + 4 * l.depth + 3

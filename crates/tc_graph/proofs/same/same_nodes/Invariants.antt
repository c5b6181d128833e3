use Rattle.std.proofs.Common.{◌≡◌, ◌*◌, ◌-◌, length}
use Rattle.tc_graph.proofs.Exploring.{Explored}
use Rattle.tc_graph.proofs.same.same_nodes.Given as goal

abbrev pub invariant-loop-at : goal.invariant-loop-at
invariant-loop-at l = record {
  rows : l.pairs.rows ≡ length l.left;
  columns : l.pairs.columns ≡ length l.right;
  found : Explored l.left l.right l.pairs.pairs l.at;
}

abbrev pub decreases-loop-at : goal.decreases-loop-at
decreases-loop-at l = length l.left * length l.right - l.at

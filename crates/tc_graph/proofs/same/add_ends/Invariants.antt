use Rattle.std.proofs.Common.{◌≡◌}
use Rattle.tc_graph.specs.Pairs.{ends_of, AddsEnds}
use Rattle.tc_graph.proofs.same.add_ends.Given as goal

abbrev pub invariant-loop-edge : goal.invariant-loop-edge
invariant-loop-edge l = record {
  rows : l.pairs.rows ≡ l.initial.pairs.rows;
  columns : l.pairs.columns ≡ l.initial.pairs.columns;
  adds : AddsEnds (ends_of l.left l.right l.lefts l.rights) l.edge l.initial.pairs.pairs l.pairs.pairs;
}

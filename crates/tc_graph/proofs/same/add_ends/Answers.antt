use Rattle.std.proofs.Common.{◌∙◌}
use Rattle.tc_graph.specs.Pairs.{ends_of}
use Rattle.tc_graph.proofs.Exploring.{adds-more}
use Rattle.tc_graph.proofs.same.add_ends.Goals as goal

pub loop-edge-preserved : goal.loop-edge-preserved
loop-edge-preserved c = record {
  rows = c.in_ok-insert.ensures.rows ∙ c.loop-edge.invariant.rows;
  columns = c.in_ok-insert.ensures.columns ∙ c.loop-edge.invariant.columns;
  adds =
      adds-more (ends_of c.args.left.now c.args.right.now c.args.lefts.now c.args.rights.now) c.loop-edge.edge
      c.args.pairs.now.pairs c.loop-edge.pairs.pairs c.insert.new.self.pairs c.loop-edge.invariant.adds
      c.in_ok-insert.ensures.front c.in_ok-insert.ensures.here c.in_ok-insert.ensures.only;
}

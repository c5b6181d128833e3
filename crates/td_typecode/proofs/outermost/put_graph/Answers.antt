use Rattle.td_typecode.proofs.OutermostParts.{puts-graph}
use Rattle.td_typecode.proofs.outermost.put_graph.Goals as goal

pub returns : goal.returns
returns c =
    puts-graph c.args.levels c.args.graph.now c.write_edge.new.places c.args.w.now c.write_edge.new.w
    c.write_edge.result (rw c.new-places.ensures at c.write_edge.ensures)

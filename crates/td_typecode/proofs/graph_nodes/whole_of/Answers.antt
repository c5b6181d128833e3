use Rattle.td_typecode.proofs.OfGraphNodes.{whole_made}
use Rattle.td_typecode.proofs.graph_nodes.whole_of.Goals as goal

pub of-requires : goal.of-requires
of-requires c = whole_made c.args.nodes.now c.in_ok-made.made.items c.in_ok-made.ensures c.requires

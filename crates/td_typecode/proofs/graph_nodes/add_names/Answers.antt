use Rattle.td_typecode.proofs.OfGraphNodes.{names-none, names-on}
use Rattle.td_typecode.proofs.graph_nodes.add_names.Goals as goal

pub loop-name-init : goal.loop-name-init
loop-name-init c = names-none c.args.node.now

pub loop-name-preserved : goal.loop-name-preserved
loop-name-preserved c =
    names-on c.args.node.now c.loop-name.node c.add_name.new.node c.args.names.now c.loop-name.name-index
    c.name-item.result c.loop-name-test.true c.name-item.is c.loop-name.invariant c.in_ok-add_name.ensures

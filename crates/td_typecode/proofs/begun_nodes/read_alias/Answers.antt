use Rattle.std.proofs.Common.{sym}
use Rattle.td_typecode.proofs.OfBegunNodes.{read_got}
use Rattle.td_typecode.proofs.begun_nodes.read_alias.Goals as goal

pub returns-in-Some : goal.returns-in-Some
returns-in-Some c =
    read_got c.args.nodes.now c.args.number c.in-Some.node.now _ (sym (rw c.in-Some.is at c.node_of.ensures))
    c.item_read.ensures

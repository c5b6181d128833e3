use Rattle.std.proofs.Common.{sym}
use Rattle.td_typecode.proofs.OfBegunNodes.{switch_got}
use Rattle.td_typecode.proofs.begun_nodes.bare_discriminator.Goals as goal

pub returns-in-Some : goal.returns-in-Some
returns-in-Some c =
    switch_got c.args.nodes.now c.args.number c.in-Some.node.now _ (sym (rw c.in-Some.is at c.node_of.ensures))
    c.node_discriminator.ensures

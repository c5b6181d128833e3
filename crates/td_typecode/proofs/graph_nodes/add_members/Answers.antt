use Rattle.td_typecode.proofs.OfGraphNodes.{members-none, members-on}
use Rattle.td_typecode.proofs.graph_nodes.add_members.Goals as goal

pub loop-member-init : goal.loop-member-init
loop-member-init c = members-none c.args.node.now

pub loop-member-preserved : goal.loop-member-preserved
loop-member-preserved c =
    members-on c.args.node.now c.loop-member.node c.add_member.new.node c.args.members.now c.loop-member.member-index
    c.member-item.result c.loop-member-test.true c.member-item.is c.loop-member.invariant c.in_ok-add_member.ensures

use Rattle.std.proofs.Common.{sym, ◌∙◌}
use Rattle.td_servant.proofs.Linked.{by_outside, inside_within}
use Rattle.td_servant.proofs.linking.answer_add_link.Goals as goal
use Rattle.td_servant.specs.Linking.{peers_seen}

pub add_inside-requires-clause-inside : goal.add_inside-requires-clause-inside
add_inside-requires-clause-inside g c =
    inside_within c.args.home.now (g.T.Traders.world c.args.traders.now) c.args.call.target _ c.in-Ok-Inside.inside
    (rw c.get.ensures at c.in-Ok-Inside.ensures) c.in-Ok-Inside.field-0-is

pub returns-in-Ok-Outside-clause-ok : goal.returns-in-Ok-Outside-clause-ok
returns-in-Ok-Outside-clause-ok g c =
    by_outside g.T.Traders.others g.T.Traders.later c.args.home.now (g.T.Traders.world c.args.traders.now)
    (g.T.Traders.world c.add_outside.new.traders) c.args.trader c.args.call c.add_outside.result
    (peers_seen (g.P.Peers.calls c.args.peers.now) (g.P.Peers.faults c.args.peers.now))
    (peers_seen (g.P.Peers.calls c.add_outside.new.peers) (g.P.Peers.faults c.add_outside.new.peers))
    (sym (rw c.get.ensures at c.in-Ok-Outside.ensures) ∙ c.in-Ok-Outside.field-0-is) c.add_outside.ensures.ok

pub answer_change-requires-clause-admitted : goal.answer_change-requires-clause-admitted
answer_change-requires-clause-admitted g c = c.link_change.ensures.admitted c.requires.admitted tt

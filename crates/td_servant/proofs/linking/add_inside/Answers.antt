use Rattle.td_servant.proofs.Linked.{inside_content}
use Rattle.td_servant.proofs.linking.add_inside.Goals as goal
use Rattle.td_servant.proofs.Admitted.{own_admitted}

pub returns-in-Ok-clause-ok : goal.returns-in-Ok-clause-ok
returns-in-Ok-clause-ok g c =
    inside_content g.T.Traders.others g.T.Traders.later c.args.home.now (g.T.Traders.world c.args.traders.now)
    (g.T.Traders.world c.answer_change.new.traders) c.args.trader c.args.call c.answer_change.result c.args.inside
    c.in-Ok.register _ c.link_change.result c.in-Ok.ensures c.name.ensures c.link_change.ensures.same
    c.answer_change.ensures.ok

pub answer_change-requires-clause-admitted : goal.answer_change-requires-clause-admitted
answer_change-requires-clause-admitted g c =
    c.link_change.ensures.admitted c.requires.admitted
    (own_admitted c.args.home.now _ c.in-Ok.register c.in-Ok.ensures)

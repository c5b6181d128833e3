use Rattle.td_servant.proofs.Looked.{look_content}
use Rattle.td_servant.proofs.looking.answer_look.Goals as goal

pub returns-clause-ok : goal.returns-clause-ok
returns-clause-ok g c =
    look_content g.T.Traders.others g.T.Traders.later c.args.home.now (g.T.Traders.world c.args.traders.now)
    (g.T.Traders.world c.look.new.self) c.args.desk.now c.tell_found.new.desk c.args.trader c.args.l.now
    (c.in_ok-found.found, c.in_ok-found.max_list) c.point-point.result c.how_many.result c.min-n.result
    c.name.result.now c.in_ok-body.body c.args.w.now c.tell_found.new.w c.in_ok-found.ensures.ok
    c.point-point.ensures.point c.how_many.ensures c.min-n.ensures c.name.ensures c.in_ok-body.ensures.cuts

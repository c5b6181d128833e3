use Rattle.td_servant.proofs.Seen.{change_content}
use Rattle.td_servant.proofs.changing.answer_change.Goals as goal

pub returns-clause-ok : goal.returns-clause-ok
returns-clause-ok g c =
    change_content g.T.Traders.others g.T.Traders.later (g.T.Traders.world c.args.traders.now)
    (g.T.Traders.world c.change.new.self) c.args.trader c.args.c c.in_ok-outcome.outcome c.point_of-point.result
    c.in_ok-outcome.ensures.ok c.point_of-point.ensures.point

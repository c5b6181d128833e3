use Rattle.std.proofs.Common.{inr}
use Rattle.td_servant.proofs.Linked.{change_noted}
use Rattle.td_servant.proofs.linking.add_as.Goals as goal

pub returns-in-Ok-clause-changed : goal.returns-in-Ok-clause-changed
returns-in-Ok-clause-changed g c =
    change_noted g.T.Traders.others g.T.Traders.later (g.T.Traders.world c.args.traders.now)
    (g.T.Traders.world c.change.new.self) c.args.trader c.args.c c.in-Ok.outcome c.point_of-point.result c.args.gave
    c.in-Ok.ensures.ok c.point_of-point.ensures.point

pub returns-in-Err-clause-changed : goal.returns-in-Err-clause-changed
returns-in-Err-clause-changed g c =
    c.asked_without_memory.ensures.content (g.T.Traders.world c.args.traders.now) c.args.c (inr c.in-Err.ensures.err)

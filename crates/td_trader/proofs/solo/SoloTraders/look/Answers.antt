use Rattle.td_trader.proofs.Alone.{looks, unseen}
use Rattle.td_trader.proofs.solo.SoloTraders.look.Goals as goal

pub returns-clause-ok : goal.returns-clause-ok
returns-clause-ok c =
    looks c.args.self.now.traders.items c.args.trader c.index.result.now c.requires c.index.ensures c.args.l.now
    c.look.result c.look.ensures

pub returns-clause-err : goal.returns-clause-err
returns-clause-err c =
    unseen c.args.self.now.traders.items c.args.trader c.index.result.now c.requires c.index.ensures c.look.result

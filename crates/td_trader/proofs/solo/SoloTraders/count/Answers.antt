use Rattle.td_trader.proofs.Alone.{distinct-seen}
use Rattle.td_trader.proofs.solo.SoloTraders.count.Goals as goal

pub returns-clause-distinct : goal.returns-clause-distinct
returns-clause-distinct c = distinct-seen c.args.self.now.traders.items c.args.self.now.distinct

use Rattle.std.proofs.Common.{sym, ap, length, List, ◌∙◌}
use Rattle.td_register.specs.declared.history.Accepted.{Accepted}
use Rattle.td_trader.proofs.Alone.{admitted-at, history-seen, legal-at}
use Rattle.td_trader.proofs.solo.SoloTraders.point.Goals as goal

pub returns-clause-point : goal.returns-clause-point
returns-clause-point c =
    c.point.ensures.count ∙ ap (λ (h : List Accepted). length h) (sym (history-seen c.args.self.now.traders.items
    c.args.trader c.index.result.now c.requires c.index.ensures))

pub returns-clause-legal : goal.returns-clause-legal
returns-clause-legal c =
    legal-at c.args.self.now.traders.items c.args.trader c.index.result.now c.requires c.index.ensures
    c.point.ensures.legal

pub returns-clause-admitted : goal.returns-clause-admitted
returns-clause-admitted c =
    admitted-at c.args.self.now.traders.items c.args.trader c.index.result.now c.requires c.index.ensures
    c.point.ensures.admitted

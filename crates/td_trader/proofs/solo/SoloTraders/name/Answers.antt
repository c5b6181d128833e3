use Rattle.std.proofs.Common.{sym, ◌∙◌}
use Rattle.td_trader.proofs.Alone.{name-seen}
use Rattle.td_trader.proofs.solo.SoloTraders.name.Goals as goal

pub returns : goal.returns
returns c =
    c.name.ensures ∙ sym (name-seen c.args.self.now.traders.items c.args.trader c.index.result.now c.requires
    c.index.ensures)

use Rattle.std.proofs.Common.{subst}
use Rattle.std.proofs.lemmas.List.Elements.{All-more}
use Rattle.td_group.specs.Soundness.{IsLegalTrader}
use Rattle.td_group.proofs.Closed.{name_more}
use Rattle.td_group.proofs.group.names_of.Goals as goal

pub loop-trader-preserved : goal.loop-trader-preserved
loop-trader-preserved c =
    let ts = c.args.traders.now in
    let k = c.loop-trader.trader-index in
    let t = c.trader-item.result in (
      name_more ts k t _ _ _ c.loop-trader-test.true c.trader-item.is c.in_ok-name.ensures.name
          c.in_ok-push.ensures.items c.loop-trader.invariant.0,
      All-more IsLegalTrader ts k t c.loop-trader-test.true c.loop-trader.invariant.1 (subst IsLegalTrader c.trader-item.is
          c.name_of.ensures.sound),
    )

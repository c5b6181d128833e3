use Rattle.td_make.proofs.Rows.{one-trader-more}
use Rattle.td_make.proofs.generating.put_traders.Goals as goal

pub loop-done-preserved : goal.loop-done-preserved
loop-done-preserved c =
    one-trader-more c.args.count c.loop-done.done _ _ _ c.loop-done.invariant c.in_ok-put_trader.ensures

use Rattle.td_make.proofs.Rows.{one-offer-more}
use Rattle.td_make.proofs.generating.put_offers.Goals as goal

pub loop-done-preserved : goal.loop-done-preserved
loop-done-preserved c =
    one-offer-more c.args.trader c.loop-done.done _ _ _ c.loop-done.invariant c.in_ok-put_offer.ensures

use Rattle.std.proofs.Common.{subst}
use Rattle.td_trader.specs.OfferLimits.{HasLimitedOffers}
use Rattle.td_trader.specs.PlainTraders.{PlainTrader, store_of}
use Rattle.td_trader.proofs.KeepingLimits.{limited_behind}
use Rattle.td_trader.proofs.trader.Trader.begin.Goals as goal

pub returns-clause-limited : goal.returns-clause-limited
returns-clause-limited c =
    subst (λ (t : PlainTrader). HasLimitedOffers (store_of t)) c.self.view_is
    (limited_behind c.self.inside.opening.value c.self.inside.history.items c.self.invariant.4)

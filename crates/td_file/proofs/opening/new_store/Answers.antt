use Rattle.td_trader.proofs.KeepingLimits.{no_offers}
use Rattle.td_file.proofs.opening.new_store.Goals as goal

pub returns-in-Ok-clause-limited : goal.returns-in-Ok-clause-limited
returns-in-Ok-clause-limited c = no_offers _ c.in-Ok.ensures.offers

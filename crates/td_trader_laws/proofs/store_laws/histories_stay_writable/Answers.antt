use Rattle.td_trader_laws.proofs.Written.{histories, replies}
use Rattle.td_trader_laws.proofs.store_laws.histories_stay_writable.Goals as goal

pub returns-clause-stores : goal.returns-clause-stores
returns-clause-stores c = histories

pub returns-clause-replies : goal.returns-clause-replies
returns-clause-replies c = replies

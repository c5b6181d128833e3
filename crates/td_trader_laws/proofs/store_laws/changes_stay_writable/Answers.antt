use Rattle.td_trader.proofs.ReadAdmitted.{read_admitted}
use Rattle.td_trader_laws.proofs.Written.{changes, counted-changes}
use Rattle.td_trader_laws.proofs.store_laws.changes_stay_writable.Goals as goal

pub returns-clause-applied : goal.returns-clause-applied
returns-clause-applied c = changes

pub returns-clause-counted : goal.returns-clause-counted
returns-clause-counted c = counted-changes

pub returns-clause-read : goal.returns-clause-read
returns-clause-read c = read_admitted

use Rattle.td_trader_laws.proofs.Writing.{begun, changes, looked, stores}
use Rattle.td_trader_laws.proofs.group_laws.traders_stay_writable.Goals as goal

pub returns-clause-stores : goal.returns-clause-stores
returns-clause-stores c = stores

pub returns-clause-changes : goal.returns-clause-changes
returns-clause-changes c = changes

pub returns-clause-looks : goal.returns-clause-looks
returns-clause-looks c = looked

pub returns-clause-begins : goal.returns-clause-begins
returns-clause-begins c = begun

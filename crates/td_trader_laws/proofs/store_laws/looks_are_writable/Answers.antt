use Rattle.td_trader_laws.proofs.AdmittingLooks.{looks}
use Rattle.td_trader_laws.proofs.store_laws.looks_are_writable.Goals as goal

pub returns : goal.returns
returns c = looks

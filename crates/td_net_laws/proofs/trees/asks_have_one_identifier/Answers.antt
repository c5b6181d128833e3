use Rattle.td_net_laws.proofs.Theorems.{all-named, all-under-one}
use Rattle.td_net_laws.proofs.trees.asks_have_one_identifier.Goals as goal

pub returns-clause-stated : goal.returns-clause-stated
returns-clause-stated c = all-named

pub returns-clause-one : goal.returns-clause-one
returns-clause-one c = all-under-one

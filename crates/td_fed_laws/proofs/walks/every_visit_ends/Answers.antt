use Rattle.td_fed_laws.proofs.Hopping.{visits-end}
use Rattle.td_fed_laws.proofs.walks.every_visit_ends.Goals as goal

pub returns : goal.returns
returns c s = visits-end _ _

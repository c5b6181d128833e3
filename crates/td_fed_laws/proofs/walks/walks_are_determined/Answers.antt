use Rattle.td_fed_laws.proofs.Determined.{determined}
use Rattle.td_fed_laws.proofs.walks.walks_are_determined.Goals as goal

pub returns : goal.returns
returns c = determined c.answers_are_one.ensures

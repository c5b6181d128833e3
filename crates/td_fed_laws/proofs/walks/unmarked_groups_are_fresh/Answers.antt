use Rattle.td_fed_laws.proofs.Recalling.{unmarked-fresh}
use Rattle.td_fed_laws.proofs.walks.unmarked_groups_are_fresh.Goals as goal

pub returns : goal.returns
returns c = unmarked-fresh

use Rattle.td_fed_laws.proofs.Hopping.{stay-within-stated}
use Rattle.td_fed_laws.proofs.walks.searches_stay_within_stated_hops.Goals as goal

pub returns : goal.returns
returns c s = stay-within-stated _ _

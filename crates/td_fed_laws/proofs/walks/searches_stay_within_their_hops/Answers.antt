use Rattle.td_fed_laws.proofs.Heading.{stay-within}
use Rattle.td_fed_laws.proofs.walks.searches_stay_within_their_hops.Goals as goal

pub returns : goal.returns
returns c s = stay-within _ _

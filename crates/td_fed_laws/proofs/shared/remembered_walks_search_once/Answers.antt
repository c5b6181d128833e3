use Rattle.td_fed_laws.proofs.Apart.{search-once}
use Rattle.td_fed_laws.proofs.shared.remembered_walks_search_once.Goals as goal

pub returns : goal.returns
returns g c = search-once _ _ g.met.T.Traders.later_marks

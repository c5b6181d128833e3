use Rattle.td_servant.proofs.Standing.{seen, stand}
use Rattle.td_servant.proofs.laws.changes_stand.Goals as goal

pub returns-clause-stand : goal.returns-clause-stand
returns-clause-stand g c = stand g.T.Traders.others g.T.Traders.later

pub returns-clause-seen : goal.returns-clause-seen
returns-clause-seen g c = seen g.T.Traders.others g.T.Traders.later

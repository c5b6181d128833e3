use Rattle.td_servant.proofs.Shortness.{group_short, short}
use Rattle.td_servant.proofs.laws.accepted_changes_are_short.Goals as goal

pub returns-clause-one : goal.returns-clause-one
returns-clause-one g c = short

pub returns-clause-group : goal.returns-clause-group
returns-clause-group g c = group_short g.T.Traders.others g.T.Traders.later

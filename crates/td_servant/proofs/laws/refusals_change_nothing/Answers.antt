use Rattle.td_servant.proofs.Standing.{looks, refusals}
use Rattle.td_servant.proofs.laws.refusals_change_nothing.Goals as goal

pub returns-clause-refusals : goal.returns-clause-refusals
returns-clause-refusals g c = refusals g.T.Traders.others g.T.Traders.later

pub returns-clause-looks : goal.returns-clause-looks
returns-clause-looks g c = looks g.T.Traders.others g.T.Traders.later

use Rattle.td_fed_laws.proofs.Apart.{are-named, are-under-one}
use Rattle.td_fed_laws.proofs.shared.walks_have_one_identifier.Goals as goal

pub returns-clause-stated : goal.returns-clause-stated
returns-clause-stated g c = are-named _ _ g.met.T.Traders.later_marks

pub returns-clause-one : goal.returns-clause-one
returns-clause-one g c = are-under-one _ _ g.met.T.Traders.later_marks

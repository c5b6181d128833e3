use Rattle.td_fed_laws.proofs.Apart.{far-apart}
use Rattle.td_fed_laws.proofs.walks.searches_of_a_trader_are_far.Goals as goal

pub returns : goal.returns
returns g c = far-apart _ _ g.met.T.Traders.later_marks

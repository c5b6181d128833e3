use Rattle.td_fed_laws.proofs.Apart.{name-searches, repeat-exactly}
use Rattle.td_fed_laws.proofs.shared.fresh_walks_repeat_their_searches.Goals as goal

pub returns-clause-named : goal.returns-clause-named
returns-clause-named g c = name-searches _ _ g.met.T.Traders.later_marks

pub returns-clause-exactly : goal.returns-clause-exactly
returns-clause-exactly g c = repeat-exactly _ _ g.met.T.Traders.later_marks

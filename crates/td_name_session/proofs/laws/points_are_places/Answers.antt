use Rattle.td_name_session.proofs.Following.{accepted-stand, own-accepted, points-rise, seen-on}
use Rattle.td_name_session.proofs.laws.points_are_places.Goals as goal

pub returns-clause-rise : goal.returns-clause-rise
returns-clause-rise g c = points-rise g.N.Names.others

pub returns-clause-own : goal.returns-clause-own
returns-clause-own g c = own-accepted g.N.Names.others

pub returns-clause-stand : goal.returns-clause-stand
returns-clause-stand g c = accepted-stand g.N.Names.others

pub returns-clause-seen : goal.returns-clause-seen
returns-clause-seen g c = seen-on g.N.Names.others

use Rattle.td_naming.proofs.Following.{accepted_stand, refusals, stays_legal}
use Rattle.td_naming.proofs.laws.calls_are_remembered.Goals as goal

pub returns-clause-refusals : goal.returns-clause-refusals
returns-clause-refusals g c = refusals g.N.Names.others

pub returns-clause-legal : goal.returns-clause-legal
returns-clause-legal g c = stays_legal g.N.Names.others

pub returns-clause-accepted : goal.returns-clause-accepted
returns-clause-accepted g c = accepted_stand g.N.Names.others

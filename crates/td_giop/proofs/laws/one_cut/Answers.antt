use Rattle.td_giop.proofs.Cuts.{one_cut, has_cut, fronts_joined}
use Rattle.td_giop.proofs.laws.one_cut.Goals as goal

pub returns-clause-one : goal.returns-clause-one
returns-clause-one c = one_cut

pub returns-clause-some_cut : goal.returns-clause-some_cut
returns-clause-some_cut c = has_cut

pub returns-clause-joined : goal.returns-clause-joined
returns-clause-joined c = fronts_joined

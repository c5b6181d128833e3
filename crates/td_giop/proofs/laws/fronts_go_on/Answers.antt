use Rattle.td_giop.proofs.Cuts.{fronts_none, fronts_fed, fronts_more, fronts_cut}
use Rattle.td_giop.proofs.laws.fronts_go_on.Goals as goal

pub returns-clause-none : goal.returns-clause-none
returns-clause-none c = fronts_none

pub returns-clause-fed : goal.returns-clause-fed
returns-clause-fed c = fronts_fed

pub returns-clause-more : goal.returns-clause-more
returns-clause-more c = fronts_more

pub returns-clause-cut : goal.returns-clause-cut
returns-clause-cut c = fronts_cut

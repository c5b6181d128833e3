use Rattle.td_name_session.proofs.Following.{refusals}
use Rattle.td_name_session.proofs.laws.refusals_change_nothing.Goals as goal

pub returns : goal.returns
returns g c = refusals g.N.Names.others

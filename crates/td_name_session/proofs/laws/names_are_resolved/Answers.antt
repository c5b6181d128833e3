use Rattle.td_name_session.proofs.Following.{resolves}
use Rattle.td_name_session.proofs.laws.names_are_resolved.Goals as goal

pub returns : goal.returns
returns g c = resolves g.N.Names.others

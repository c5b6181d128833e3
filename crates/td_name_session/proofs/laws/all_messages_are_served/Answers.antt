use Rattle.td_name_session.proofs.Complete.{complete}
use Rattle.td_name_session.proofs.laws.all_messages_are_served.Goals as goal

pub returns : goal.returns
returns g c = complete g.N.Names.others

use Rattle.td_session.proofs.Complete.{complete}
use Rattle.td_session.proofs.laws.all_messages_are_served.Goals as goal

pub returns : goal.returns
returns g c = complete g.T.Traders.others g.T.Traders.later

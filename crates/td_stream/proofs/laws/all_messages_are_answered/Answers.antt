use Rattle.td_stream.proofs.Complete.{complete}
use Rattle.td_stream.proofs.laws.all_messages_are_answered.Goals as goal

pub returns : goal.returns
returns g c = complete g.V.Servant.serves g.V.Servant.stays

use Rattle.td_shared_sessions_laws.proofs.Apart.{no_two}
use Rattle.td_shared_sessions_laws.proofs.laws.no_item_goes_to_two_sessions.Goals as goal

pub returns : goal.returns
returns g c = no_two _

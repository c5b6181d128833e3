use Rattle.td_sessions_laws.proofs.Spelling.{sessions-spell}
use Rattle.td_sessions_laws.proofs.laws.each_reply_spells_its_outcome.Goals as goal

pub returns : goal.returns
returns g c = sessions-spell _

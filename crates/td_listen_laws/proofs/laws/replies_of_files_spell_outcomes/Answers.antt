use Rattle.td_listen_laws.proofs.Spelling.{files-spell}
use Rattle.td_listen_laws.proofs.laws.replies_of_files_spell_outcomes.Goals as goal

pub returns : goal.returns
returns g c = files-spell _

use Rattle.td_command_laws.proofs.Spelling.{runs-spell}
use Rattle.td_command_laws.proofs.laws.replies_spell_outcomes.Goals as goal

pub returns : goal.returns
returns c = runs-spell

use Rattle.td_lines.proofs.Sounding.{sound}
use Rattle.td_lines.proofs.laws.scripts_are_sound.Goals as goal

pub returns : goal.returns
returns c = λ text. sound text

use Rattle.td_file_laws.proofs.Worked.{worked}
use Rattle.td_file_laws.proofs.laws.worked_telling.Goals as goal

pub returns : goal.returns
returns c = worked

use Rattle.td_naming.proofs.Worked.{history}
use Rattle.td_naming.proofs.laws.worked_history.Goals as goal

pub returns : goal.returns
returns c = history

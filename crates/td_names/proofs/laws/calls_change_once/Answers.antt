use Rattle.td_names.proofs.Refusals.{changes_once}
use Rattle.td_names.proofs.laws.calls_change_once.Goals as goal

pub returns : goal.returns
returns c = λ s t c a r. changes_once s t c a r

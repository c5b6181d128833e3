use Rattle.td_names.proofs.Changing.{changes_or_keeps}
use Rattle.td_names.proofs.laws.changes_are_replied.Goals as goal

pub returns : goal.returns
returns c = λ s t c a r. changes_or_keeps s t c a r

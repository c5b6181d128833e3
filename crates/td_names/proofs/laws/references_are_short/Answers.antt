use Rattle.td_names.proofs.Leading.{own-short}
use Rattle.td_names.proofs.laws.references_are_short.Goals as goal

pub returns : goal.returns
returns c = λ home n order place. own-short home n order place

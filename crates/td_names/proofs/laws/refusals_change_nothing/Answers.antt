use Rattle.td_names.proofs.Refusals.{refusal_keeps}
use Rattle.td_names.proofs.laws.refusals_change_nothing.Goals as goal

pub returns : goal.returns
returns c = λ s t c a r. refusal_keeps s t c a r

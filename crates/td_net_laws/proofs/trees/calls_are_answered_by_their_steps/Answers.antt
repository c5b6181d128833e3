use Rattle.td_net_laws.proofs.Theorems.{all-answered}
use Rattle.td_net_laws.proofs.trees.calls_are_answered_by_their_steps.Goals as goal

pub returns : goal.returns
returns c = all-answered

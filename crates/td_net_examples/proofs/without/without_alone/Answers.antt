use Rattle.td_net_examples.proofs.AloneLeft.{without-alone}
use Rattle.td_net_examples.proofs.without.without_alone.Goals as goal

pub returns : goal.returns
returns c to home words at = without-alone to home words at

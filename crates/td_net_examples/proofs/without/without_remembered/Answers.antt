use Rattle.td_net_examples.proofs.RememberedLeft.{without-remembered}
use Rattle.td_net_examples.proofs.without.without_remembered.Goals as goal

pub returns : goal.returns
returns c to home words at = without-remembered to home words at

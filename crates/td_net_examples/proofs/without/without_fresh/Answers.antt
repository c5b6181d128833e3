use Rattle.td_net_examples.proofs.FreshLeft.{without-fresh}
use Rattle.td_net_examples.proofs.without.without_fresh.Goals as goal

pub returns : goal.returns
returns c home words = without-fresh home words

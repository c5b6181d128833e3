use Rattle.td_net_examples.proofs.ReturnedTrees.{worked-return}
use Rattle.td_net_examples.proofs.trees.worked_return.Goals as goal

pub returns : goal.returns
returns c to inside words at = worked-return to inside words at

use Rattle.td_net_examples.proofs.DiamondTrees.{worked-diamond}
use Rattle.td_net_examples.proofs.trees.worked_diamond.Goals as goal

pub returns : goal.returns
returns c to inside words at = worked-diamond to inside words at

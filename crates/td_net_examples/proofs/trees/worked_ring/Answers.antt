use Rattle.td_net_examples.proofs.RingTrees.{worked-ring}
use Rattle.td_net_examples.proofs.trees.worked_ring.Goals as goal

pub returns : goal.returns
returns c to inside words at = worked-ring to inside words at

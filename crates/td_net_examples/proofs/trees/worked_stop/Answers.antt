use Rattle.td_net_examples.proofs.RingTrees.{worked-stop}
use Rattle.td_net_examples.proofs.trees.worked_stop.Goals as goal

pub returns : goal.returns
returns c to inside words at = worked-stop to inside words at

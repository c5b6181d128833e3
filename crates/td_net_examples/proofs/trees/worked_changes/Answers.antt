use Rattle.td_net_examples.proofs.ChangedTrees.{worked-changes}
use Rattle.td_net_examples.proofs.trees.worked_changes.Goals as goal

pub returns : goal.returns
returns c to inside words at = worked-changes to inside words at

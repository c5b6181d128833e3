use Rattle.td_net_laws.proofs.Theorems.{one-tree}
use Rattle.td_net_laws.proofs.trees.every_schedule_gives_one_walk.Goals as goal

pub returns : goal.returns
returns c = one-tree

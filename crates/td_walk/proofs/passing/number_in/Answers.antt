use Rattle.td_policy.proofs.Alone.{number_none}
use Rattle.td_walk.proofs.passing.number_in.Goals as goal

pub same_tree-requires : goal.same_tree-requires
same_tree-requires c = record { tree = number_none }

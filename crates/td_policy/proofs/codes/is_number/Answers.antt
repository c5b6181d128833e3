use Rattle.td_policy.proofs.Alone.{number_none}
use Rattle.td_policy.proofs.codes.is_number.Goals as goal

pub same_tree-requires : goal.same_tree-requires
same_tree-requires c = record { tree = number_none }

use Rattle.td_policy.proofs.Alone.{truth_none}
use Rattle.td_policy.proofs.codes.is_truth.Goals as goal

pub same_tree-requires : goal.same_tree-requires
same_tree-requires c = record { tree = truth_none }

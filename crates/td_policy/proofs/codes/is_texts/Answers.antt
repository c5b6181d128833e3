use Rattle.td_policy.proofs.Alone.{texts_none}
use Rattle.td_policy.proofs.codes.is_texts.Goals as goal

pub same_tree-requires : goal.same_tree-requires
same_tree-requires c = rw c.in_ok-expected.ensures (record { tree = texts_none 0 })

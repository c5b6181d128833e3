use Rattle.td_policy.proofs.Alone.{octets_none}
use Rattle.td_policy.proofs.codes.is_octets.Goals as goal

pub same_tree-requires : goal.same_tree-requires
same_tree-requires c = rw c.in_ok-expected.ensures (record { tree = octets_none 0 })

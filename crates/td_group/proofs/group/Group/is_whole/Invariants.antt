use Rattle.std.proofs.Common.{◌≡◌, drop}
use Rattle.td_group.specs.Grouping.{are_met}
use Rattle.td_group.proofs.group.Group.is_whole.Given as goal

abbrev pub invariant-loop-k : goal.invariant-loop-k
invariant-loop-k l = are_met (drop l.k l.passes.items) ≡ are_met l.passes.items

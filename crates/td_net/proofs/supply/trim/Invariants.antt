use Rattle.std.proofs.Common.{◌≡◌, length}
use Rattle.td_net.proofs.supply.trim.Given as goal
use Rattle.td_net.specs.Supplies.{without_zeros}

abbrev pub invariant-loop-words : goal.invariant-loop-words
invariant-loop-words l = without_zeros l.words.items ≡ without_zeros l.fn.words.items

abbrev pub decreases-loop-words : goal.decreases-loop-words
decreases-loop-words l = length l.words.items

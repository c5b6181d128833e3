use Rattle.std.proofs.Common.{◌≡◌, length}
use Rattle.td_eval.specs.Comparing.{occurs_in}
use Rattle.td_eval.proofs.comparison.occurs_in.Given as goal

abbrev pub invariant-places : goal.invariant-places
invariant-places l = occurs_in l.part l.rest ≡ occurs_in l.initial.part l.initial.rest

abbrev pub decreases-places : goal.decreases-places
decreases-places l = length l.rest

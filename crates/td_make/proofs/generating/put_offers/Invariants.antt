use Rattle.std.proofs.Common.{◌≡◌, ◌++◌}
use Rattle.td_make.specs.Generated.{first_offers}
use Rattle.td_make.proofs.generating.put_offers.Given as goal

abbrev pub invariant-loop-done : goal.invariant-loop-done
invariant-loop-done l = l.text.items ≡ l.initial.text.items ++ first_offers l.trader l.done

use Rattle.std.proofs.Common.{◌≡◌, ◌++◌}
use Rattle.td_make.specs.Generated.{first_traders}
use Rattle.td_make.proofs.generating.put_traders.Given as goal

abbrev pub invariant-loop-done : goal.invariant-loop-done
invariant-loop-done l = l.text.items ≡ l.initial.text.items ++ first_traders l.count l.done

use Rattle.std.proofs.Common.{◌<◌, ◌+◌}
use Rattle.std.specs.List.{AllByRecursion}
use Rattle.td_store_tests.proofs.making.append_all.Given as goal

-- the next number is above all
abbrev pub invariant-loop-line : goal.invariant-loop-line
invariant-loop-line l = AllByRecursion (λ o. o.number < l.number + 1) l.offers

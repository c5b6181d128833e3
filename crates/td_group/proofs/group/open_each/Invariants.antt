use Rattle.std.proofs.Common.{reverse, vec_len}
use Rattle.td_group.specs.Grouping.{OpensOn}
use Rattle.td_group.proofs.group.open_each.Given as goal

abbrev pub invariant-loop-trader : goal.invariant-loop-trader
invariant-loop-trader l =
    OpensOn (reverse l.initial.traders.items) (reverse l.traders.items) l.cells.items l.passes.items

abbrev pub decreases-loop-trader : goal.decreases-loop-trader
decreases-loop-trader l = vec_len l.traders

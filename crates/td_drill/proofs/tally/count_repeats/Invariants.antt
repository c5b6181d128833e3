use Rattle.std.proofs.Common.{◌≡◌, ◌+◌, count_by, drop}
use Rattle.td_drill.specs.Tallies.{is_repeat}
use Rattle.td_drill.proofs.tally.count_repeats.Given as goal

-- with what is left, it makes what all makes
abbrev pub invariant-loop-item : goal.invariant-loop-item
invariant-loop-item l = l.count + count_by is_repeat (drop l.item-index l.items) ≡ count_by is_repeat l.items

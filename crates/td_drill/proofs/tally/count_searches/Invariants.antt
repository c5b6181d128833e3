use Rattle.std.proofs.Common.{◌≡◌, ◌+◌, count_by, drop}
use Rattle.td_drill.specs.Tallies.{is_search}
use Rattle.td_drill.proofs.tally.count_searches.Given as goal

-- with what is left, it makes what all makes
abbrev pub invariant-loop-item : goal.invariant-loop-item
invariant-loop-item l = l.count + count_by is_search (drop l.item-index l.items) ≡ count_by is_search l.items

use Rattle.std.proofs.Common.{◌+◌, ◌≤◌, vec_capacity, vec_len}
use Rattle.std.specs.List.{AllZip}
use Rattle.td_group.specs.Grouping.{ClosesOn, IsReady}
use Rattle.td_group.proofs.group.close_all.Given as goal

abbrev pub invariant-loop-cell : goal.invariant-loop-cell
invariant-loop-cell l =
    AllZip IsReady l.cells.items l.passes.items
    × (vec_len l.kept + vec_len l.cells ≤ vec_capacity l.kept)
    × ClosesOn l.initial.cells.items l.initial.passes.items l.cells.items l.passes.items l.kept.items

abbrev pub decreases-loop-cell : goal.decreases-loop-cell
decreases-loop-cell l = vec_len l.cells

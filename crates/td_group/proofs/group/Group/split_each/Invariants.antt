use Rattle.std.proofs.Common.{◌≡◌, ◌≤◌, vec_capacity, vec_len}
use Rattle.td_group.specs.Grouping.{AreOpening, SplitsOff}
use Rattle.td_group.specs.Rows.{DropsFront}
use Rattle.td_group.proofs.group.Group.split_each.Given as goal

abbrev pub invariant-loop-k : goal.invariant-loop-k
invariant-loop-k l =
    AreOpening l.self.cells.items l.passes.items
    × DropsFront SplitsOff l.out.items l.initial.passes.items l.passes.items
    × (vec_len l.out ≡ l.k)
    × (vec_len l.self.cells ≤ vec_capacity l.out)

use Rattle.std.proofs.Common.{◌≡◌, ◌-◌, ◌≤◌}
use Rattle.td_marks.specs.Making.{is_free, first_free, next_value}
use Rattle.td_marks.proofs.ring.Ring.make.Given as goal

-- the first from here on is the first of all
abbrev pub invariant-loop-value : goal.invariant-loop-value
invariant-loop-value l =
    (l.value ≤ l.end)
    × (first_free (is_free l.self l.stem) (l.end - l.value) l.value ≡ next_value l.self l.stem)

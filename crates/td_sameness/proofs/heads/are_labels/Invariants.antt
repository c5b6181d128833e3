use Rattle.std.proofs.Common.{◌≡◌, drop, length, map}
use Rattle.std.specs.Ordering.{int_eq}
use Rattle.std.specs.Cmp.Lexicographic.{pointwise}
use Rattle.td_typecode.specs.Same.{labels_in, row, arm_entry}
use Rattle.td_sameness.proofs.heads.are_labels.Given as goal

abbrev pub invariant-loop-i : goal.invariant-loop-i
invariant-loop-i l = record {
  long : length l.arms ≡ length l.labels;
  so_far : pointwise int_eq (labels_in (row (map arm_entry (drop l.i l.arms)))) (drop l.i l.labels)
      ≡ pointwise int_eq (labels_in (row (map arm_entry l.arms))) l.labels;
}

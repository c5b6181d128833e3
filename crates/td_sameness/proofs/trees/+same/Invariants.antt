use Rattle.std.proofs.Common.{◌≡◌, drop, length, map}
use Rattle.td_typecode.specs.Same.{alike, row, member_entry, arm_entry}
use Rattle.td_sameness.proofs.trees.+same.Given as goal

abbrev pub invariant-same_members-loop-i : goal.invariant-same_members-loop-i
invariant-same_members-loop-i l = record {
  long : length l.a ≡ length l.b;
  so_far : alike (row (map member_entry (drop l.i l.a))) (row (map member_entry (drop l.i l.b)))
      ≡ alike (row (map member_entry l.a)) (row (map member_entry l.b));
}

abbrev pub invariant-same_arms-loop-i : goal.invariant-same_arms-loop-i
invariant-same_arms-loop-i l = record {
  long : length l.a ≡ length l.b;
  so_far : alike (row (map arm_entry (drop l.i l.a))) (row (map arm_entry (drop l.i l.b)))
      ≡ alike (row (map arm_entry l.a)) (row (map arm_entry l.b));
}

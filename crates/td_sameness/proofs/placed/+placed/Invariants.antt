use Rattle.std.proofs.Common.{◌≡◌, drop, length, map}
use Rattle.td_typecode.specs.Same.{alike_along, row, member_entry, arm_entry}
use Rattle.td_sameness.proofs.placed.+placed.Given as goal

abbrev pub invariant-members_along-loop-i : goal.invariant-members_along-loop-i
invariant-members_along-loop-i l = record {
  long : length l.members ≡ length l.edges;
  so_far : alike_along l.graph (row (map member_entry (drop l.i l.members))) (drop l.i l.edges)
      ≡ alike_along l.graph (row (map member_entry l.members)) l.edges;
}

abbrev pub invariant-arms_along-loop-i : goal.invariant-arms_along-loop-i
invariant-arms_along-loop-i l = record {
  long : length l.arms ≡ length l.edges;
  so_far : alike_along l.graph (row (map arm_entry (drop l.i l.arms))) (drop l.i l.edges)
      ≡ alike_along l.graph (row (map arm_entry l.arms)) l.edges;
}

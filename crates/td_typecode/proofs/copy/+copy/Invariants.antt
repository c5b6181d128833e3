use Rattle.std.proofs.Common.{◌≡◌, take}
use Rattle.td_typecode.proofs.copy.+copy.Given as goal

abbrev pub invariant-copy_members-loop-member : goal.invariant-copy_members-loop-member
invariant-copy_members-loop-member l = l.twin ≡ take l.member-index l.members

abbrev pub invariant-copy_arms-loop-arm : goal.invariant-copy_arms-loop-arm
invariant-copy_arms-loop-arm l = l.twin ≡ take l.arm-index l.arms

abbrev pub invariant-copy_values-loop-value : goal.invariant-copy_values-loop-value
invariant-copy_values-loop-value l = l.twin ≡ take l.value-index l.values

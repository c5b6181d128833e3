use Rattle.std.proofs.Common.{◌≡◌, drop}
use Rattle.td_typecode.specs.Values.{first_arm}
use Rattle.td_typecode.proofs.values.branch_of.Given as goal

abbrev pub invariant-loop-i : goal.invariant-loop-i
invariant-loop-i l = first_arm l.default l.label l.i (drop l.i l.arms) ≡ first_arm l.default l.label 0 l.arms

use Rattle.td_iter.specs.Heads.{AreSmallIds}
use Rattle.td_desk_tests.proofs.making.ids.Given as goal

abbrev pub invariant-loop-i : goal.invariant-loop-i
invariant-loop-i l = AreSmallIds l.left

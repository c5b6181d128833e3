use Rattle.td_iter.specs.Heads.{AreSmallIds}
use Rattle.td_lines_tests.proofs.making.ids.Given as goal

abbrev pub invariant-loop : goal.invariant-loop
invariant-loop l = AreSmallIds l.left

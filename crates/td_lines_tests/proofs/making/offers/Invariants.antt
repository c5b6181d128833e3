use Rattle.td_iter.specs.Heads.{AreSmallOffers}
use Rattle.td_lines_tests.proofs.making.offers.Given as goal

abbrev pub invariant-loop-i : goal.invariant-loop-i
invariant-loop-i l = AreSmallOffers l.left

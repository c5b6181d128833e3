use Rattle.td_iter.specs.Heads.{AreSmallOffers}
use Rattle.td_lines_tests.proofs.making.same_offers.Given as goal

abbrev pub invariant-loop : goal.invariant-loop
invariant-loop l = AreSmallOffers l.left

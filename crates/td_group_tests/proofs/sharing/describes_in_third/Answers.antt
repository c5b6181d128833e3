use Rattle.td_group.proofs.Passing.{still_out}
use Rattle.td_group_tests.proofs.sharing.describes_in_third.Goals as goal

pub take_in-requires-clause-out : goal.take_in-requires-clause-out
take_in-requires-clause-out g c = still_out _ _ _ c.describes-described.ensures c.in_ok-third.ensures.out

pub returns-clause-stays : goal.returns-clause-stays
returns-clause-stays g c = λ ts z. c.take_in.ensures.stays ts (c.pass.ensures.stays ts z)

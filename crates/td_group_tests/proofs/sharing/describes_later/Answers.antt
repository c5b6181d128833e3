use Rattle.td_group.proofs.Passing.{still_out}
use Rattle.td_group_tests.proofs.sharing.describes_later.Goals as goal

pub take_in-requires-clause-out : goal.take_in-requires-clause-out
take_in-requires-clause-out g c =
    still_out _ _ _ c.exports-exported.ensures (c.pass-2.ensures.stays _ c.in_ok-first.ensures.out)

pub take_in-requires-in-Ok-clause-out : goal.take_in-requires-in-Ok-clause-out
take_in-requires-in-Ok-clause-out g c =
    c.describes_in_third-described.ensures.stays _ (c.take_in.ensures.stays _ c.in-Ok.ensures.out)

use Rattle.td_group.proofs.Passing.{still_out}
use Rattle.td_group_tests.proofs.sharing.exports_and_describes.Goals as goal

pub take_in-requires-clause-out : goal.take_in-requires-clause-out
take_in-requires-clause-out g c =
    still_out _ _ _ c.exports_then_describes-passed.ensures c.in_ok-session.ensures.out

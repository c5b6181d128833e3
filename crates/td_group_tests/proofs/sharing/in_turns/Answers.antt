use Rattle.td_group.proofs.Passing.{still_out}
use Rattle.td_group_tests.proofs.sharing.in_turns.Goals as goal

pub take_in-requires-clause-out : goal.take_in-requires-clause-out
take_in-requires-clause-out g c =
    still_out _ _ _ c.lists-seen_back.ensures (c.pass-2.ensures.stays _ (still_out _ _ _ c.adds-added.ensures
    c.in_ok-first.ensures.out))

pub take_in-requires-in-Ok-clause-out : goal.take_in-requires-in-Ok-clause-out
take_in-requires-in-Ok-clause-out g c =
    c.take_in.ensures.stays _ (still_out _ _ _ c.sees-seen.ensures c.in-Ok.ensures.out)

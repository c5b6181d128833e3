use Rattle.std.proofs.Common.{◌∙◌}
use Rattle.td_shared_names.proofs.Passing.{still_out}
use Rattle.td_shared_names_tests.proofs.sharing.in_turns.Goals as goal

pub take_in-requires-clause-out : goal.take_in-requires-clause-out
take_in-requires-clause-out g c =
    let a = c.makes-first.ensures in
    let b = c.makes-first-in-Ok.ensures in
    still_out _ _ _ (a.0 ∙ b.0, a.1 ∙ b.1) (c.pass-2.ensures.stays _ c.in_ok-first.ensures.out)

pub take_in-requires-in-Ok-clause-out : goal.take_in-requires-in-Ok-clause-out
take_in-requires-in-Ok-clause-out g c =
    c.take_in.ensures.stays _ (still_out _ _ _ c.makes-second.ensures c.in-Ok.ensures.out)

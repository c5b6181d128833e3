use Rattle.td_desk_tests.proofs.shared.both_in_turns.Goals as goal

pub in_turns-requires-clause-order : goal.in_turns-requires-clause-order
in_turns-requires-clause-order g c = c.split.ensures.stays c.in_ok-desk.ensures.order

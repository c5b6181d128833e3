use Rattle.td_desk_tests.proofs.shared.put.Goals as goal

pub put_under-requires-clause-drawn : goal.put_under-requires-clause-drawn
put_under-requires-clause-drawn g c = c.in-Ok.ensures.usable c.requires.order

use Rattle.td_trader.proofs.local.candidates_of.Given as goal

abbrev pub ghosts-counted_candidates : goal.ghosts-counted_candidates
ghosts-counted_candidates a = record { name = a.blank.name; parts = a.blank.parts }

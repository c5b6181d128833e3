use Rattle.td_store_tests.proofs.places.leaves.Given as goal

abbrev pub ghosts-left : goal.ghosts-left
ghosts-left a = record { name = a.blank.name; parts = a.blank.parts }

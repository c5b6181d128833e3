use Rattle.td_store_tests.proofs.places.uses_again.Given as goal

abbrev pub ghosts-used_again : goal.ghosts-used_again
ghosts-used_again a = record { name = a.blank.name; parts = a.blank.parts }

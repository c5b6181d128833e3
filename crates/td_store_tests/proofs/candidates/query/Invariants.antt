use Rattle.td_store_tests.proofs.candidates.query.Given as goal

abbrev pub ghosts-search : goal.ghosts-search
ghosts-search a = record { name = a.blank.name; parts = a.blank.parts }

abbrev pub ghosts-conforming : goal.ghosts-conforming
ghosts-conforming a = record { name = a.blank.name; parts = a.blank.parts }

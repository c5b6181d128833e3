use Rattle.td_modify.proofs.withdrawing.all_met.Given as goal

abbrev pub ghosts-conforming : goal.ghosts-conforming
ghosts-conforming a = record { name = a.blank.name; parts = a.blank.parts }

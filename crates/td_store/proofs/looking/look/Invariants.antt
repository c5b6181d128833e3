use Rattle.td_store.proofs.looking.look.Given as goal

abbrev pub ghosts-counted_look : goal.ghosts-counted_look
ghosts-counted_look a = record { name = a.blank.name; parts = a.blank.parts }

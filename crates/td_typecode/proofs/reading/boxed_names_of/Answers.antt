use Rattle.td_typecode.proofs.reading.boxed_names_of.Goals as goal

pub returns : goal.returns
returns c = rw c.in_ok-new.ensures c.in_ok-names.ensures

use Rattle.td_name_ops.proofs.exceptions.put_members.Goals as goal

pub returns-in-NotFound : goal.returns-in-NotFound
returns-in-NotFound c = rw c.in-NotFound.is c.put_two.ensures

pub returns-in-CannotProceed : goal.returns-in-CannotProceed
returns-in-CannotProceed c = rw c.in-CannotProceed.is c.put_two-in-CannotProceed.ensures

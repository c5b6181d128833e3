use Rattle.td_marks.proofs.Free.{is_next, is_alone}
use Rattle.td_marks.proofs.laws.next_values_are_free.Goals as goal

pub returns-clause-free : goal.returns-clause-free
returns-clause-free c = is_next

pub returns-clause-alone : goal.returns-clause-alone
returns-clause-alone c = is_alone

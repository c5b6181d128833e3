use Rattle.td_changes.specs.Applying.{comes_to, count_change}
use Rattle.td_changes.proofs.Refusing.{left}
use Rattle.td_changes.proofs.laws.refused_changes_leave_the_store.Goals as goal

pub returns-clause-counted : goal.returns-clause-counted
returns-clause-counted c = λ bounds count s ch h. left s (count_change bounds count s ch) h

pub returns-clause-uncounted : goal.returns-clause-uncounted
returns-clause-uncounted c = λ s ch h. left s (comes_to s ch) h

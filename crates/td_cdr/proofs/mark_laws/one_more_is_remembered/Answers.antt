use Rattle.td_cdr.proofs.Marking.{newest, no_other, stays_remembered}
use Rattle.td_cdr.proofs.mark_laws.one_more_is_remembered.Goals as goal

-- src/mark_laws.rt:22:1
pub returns-clause-new : goal.returns-clause-new
returns-clause-new c = newest

-- src/mark_laws.rt:22:1
pub returns-clause-others : goal.returns-clause-others
returns-clause-others c = no_other

-- src/mark_laws.rt:22:1
pub returns-clause-kept : goal.returns-clause-kept
returns-clause-kept c = stays_remembered

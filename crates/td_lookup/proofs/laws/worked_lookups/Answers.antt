use Rattle.td_lookup.proofs.Worked.{choosing, completion, first}
use Rattle.td_lookup.proofs.laws.worked_lookups.Goals as goal

pub returns-clause-choosing : goal.returns-clause-choosing
returns-clause-choosing c = choosing

pub returns-clause-completion : goal.returns-clause-completion
returns-clause-completion c = completion

pub returns-clause-first : goal.returns-clause-first
returns-clause-first c = first

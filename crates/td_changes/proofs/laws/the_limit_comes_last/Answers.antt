use Rattle.td_changes.proofs.Limit.{at-limit, below}
use Rattle.td_changes.proofs.laws.the_limit_comes_last.Goals as goal

pub returns-clause-full : goal.returns-clause-full
returns-clause-full c = at-limit

pub returns-clause-below : goal.returns-clause-below
returns-clause-below c = below

use Rattle.td_changes.proofs.Extending.{at-whole, at-none}
use Rattle.td_changes.proofs.laws.points_lead_to_stores.Goals as goal

pub returns-clause-whole : goal.returns-clause-whole
returns-clause-whole c = at-whole

pub returns-clause-none : goal.returns-clause-none
returns-clause-none c = at-none

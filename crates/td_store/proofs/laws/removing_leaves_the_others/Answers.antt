use Rattle.td_store.proofs.Limits.{removed-gone, others-left}
use Rattle.td_store.proofs.laws.removing_leaves_the_others.Goals as goal

pub returns-clause-gone : goal.returns-clause-gone
returns-clause-gone c = removed-gone

pub returns-clause-others : goal.returns-clause-others
returns-clause-others c = others-left

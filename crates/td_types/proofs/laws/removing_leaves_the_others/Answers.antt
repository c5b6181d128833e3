use Rattle.td_types.proofs.Outcomes.{removal}
use Rattle.td_types.proofs.laws.removing_leaves_the_others.Goals as goal

pub returns : goal.returns
returns c = λ r after name content valid h. removal r name content after valid h

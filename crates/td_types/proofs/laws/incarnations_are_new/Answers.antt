use Rattle.td_types.proofs.Outcomes.{newest}
use Rattle.td_types.proofs.laws.incarnations_are_new.Goals as goal

pub returns : goal.returns
returns c = λ r after name if_name props supers content valid h. newest r name if_name props supers content after valid h

use Rattle.td_net_laws.proofs.Oneness.{trees-one}
use Rattle.td_net_laws.proofs.trees.trees_are_one.Goals as goal

pub returns : goal.returns
returns c = trees-one c.answers_are_one.ensures

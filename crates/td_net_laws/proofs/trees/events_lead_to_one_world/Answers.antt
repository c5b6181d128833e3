use Rattle.td_net_laws.proofs.Oneness.{runs-one}
use Rattle.td_net_laws.proofs.trees.events_lead_to_one_world.Goals as goal

pub returns : goal.returns
returns c = runs-one c.answers_are_one.ensures

use Rattle.td_desk.proofs.Fronts.{given_is_front}
use Rattle.td_desk.proofs.laws.given_is_front.Goals as goal

pub returns : goal.returns
returns c = given_is_front

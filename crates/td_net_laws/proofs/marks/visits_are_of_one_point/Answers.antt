use Rattle.td_net_laws.proofs.Apart.{read}
use Rattle.td_net_laws.proofs.marks.visits_are_of_one_point.Goals as goal

pub returns : goal.returns
returns c = read

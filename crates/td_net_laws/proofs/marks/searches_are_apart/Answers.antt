use Rattle.td_net_laws.proofs.Apart.{apart}
use Rattle.td_net_laws.proofs.marks.searches_are_apart.Goals as goal

pub returns : goal.returns
returns c = apart

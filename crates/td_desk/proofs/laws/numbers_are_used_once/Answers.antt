use Rattle.td_desk.proofs.Ordering.{used_once}
use Rattle.td_desk.proofs.laws.numbers_are_used_once.Goals as goal

pub returns : goal.returns
returns c = used_once

use Rattle.td_desk.proofs.Apart.{drawn_apart}
use Rattle.td_desk.proofs.laws.numbers_are_apart.Goals as goal

pub returns : goal.returns
returns c = drawn_apart

use Rattle.td_iter.proofs.Places.{numbers-rise}
use Rattle.td_iter.proofs.laws.numbers_rise.Goals as goal

pub returns : goal.returns
returns g c = numbers-rise

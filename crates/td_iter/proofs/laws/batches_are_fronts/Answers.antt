use Rattle.td_iter.proofs.Greatest.{batches_whole}
use Rattle.td_iter.proofs.laws.batches_are_fronts.Goals as goal

pub returns : goal.returns
returns g c = batches_whole

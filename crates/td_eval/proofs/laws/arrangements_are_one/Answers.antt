use Rattle.td_eval.proofs.OneOrder.{one_arrangement}
use Rattle.td_eval.proofs.laws.arrangements_are_one.Goals as goal

pub returns : goal.returns
returns c = λ p offers xs ys a b. one_arrangement p offers xs ys a b

use Rattle.td_eval.proofs.Truths.{number_no_truth}
use Rattle.td_eval.proofs.evaluation.+evaluating.Goals as goal

pub truth_of-returns-in-Number : goal.truth_of-returns-in-Number
truth_of-returns-in-Number t c = rw c.in-Number.is (number_no_truth c.args.map.now _)

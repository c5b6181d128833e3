use Rattle.td_query_walk.proofs.Answering.{one_answer}
use Rattle.td_query_walk.proofs.answers.answers_are_one.Goals as goal

pub returns : goal.returns
returns c = one_answer c.arrangements_are_one.ensures

use Rattle.td_query_walk.proofs.Walked.{all-show}
use Rattle.td_query_walk.proofs.walks.walks_are_asked.Goals as goal

pub returns : goal.returns
returns c = all-show

use Rattle.td_query_walk.proofs.Spending.{ends, asked_before}
use Rattle.td_query_walk.proofs.walks.visits_end.Goals as goal

pub returns-clause-bound : goal.returns-clause-bound
returns-clause-bound c = ends

pub returns-clause-forward : goal.returns-clause-forward
returns-clause-forward c = asked_before

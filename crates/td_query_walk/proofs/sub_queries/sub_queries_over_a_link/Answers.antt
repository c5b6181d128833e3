use Rattle.td_query_walk.proofs.Passed.{over_a_link}
use Rattle.td_query_walk.proofs.sub_queries.sub_queries_over_a_link.Goals as goal

pub returns : goal.returns
returns c = over_a_link

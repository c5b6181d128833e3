use Rattle.td_query_walk.proofs.Proxied.{with_passed_on}
use Rattle.td_query_walk.proofs.sub_queries.sub_queries_with_passed_policies.Goals as goal

pub returns : goal.returns
returns c = with_passed_on

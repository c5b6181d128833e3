use Rattle.std.proofs.Common.{refl}
use Rattle.td_eval.specs.Mentioning.{with_names}
use Rattle.td_walk.specs.Resolving.{resolved}
use Rattle.td_walk.specs.Visits.{next_of, visit_of, steps}
use Rattle.td_walk.specs.SubQueries.{link_step, proxy_step}
use Rattle.td_query_walk.proofs.examples.worked_visits.Goals as goal

pub returns : goal.returns
unfolding next_of visit_of steps link_step proxy_step with_names resolved
returns c = record {
  alone = refl;
  followed = refl;
  answered = refl;
  with_match = refl;
  without_match = refl;
  on_the_way = refl;
  on_the_way_back = refl;
  on_any_way = refl;
  enough = refl;
  none_wanted = refl;
  at_random = refl;
}

use Rattle.std.proofs.Common.{refl}
use Rattle.td_eval.specs.Expansion.{part_text}
use Rattle.td_eval.specs.Mentioning.{with_names}
use Rattle.td_lang.specs.Recipes.{recipe_of}
use Rattle.td_walk.specs.Resolving.{resolved}
use Rattle.td_walk.specs.SubQueries.{expansion_of}
use Rattle.td_walk.specs.Visits.{next_of, visit_of, steps}
use Rattle.td_walk.specs.SubQueries.{link_step, proxy_step}
use Rattle.td_query_walk.proofs.examples.worked_proxies.Goals as goal

pub returns : goal.returns
unfolding next_of visit_of steps link_step proxy_step with_names resolved recipe_of expansion_of part_text
returns c = record { called = refl; behind_it = refl }

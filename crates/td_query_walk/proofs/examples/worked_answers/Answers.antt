use Rattle.std.proofs.Common.{[], ◌∷◌, refl}
use Rattle.td_eval.specs.Mentioning.{with_names}
use Rattle.td_walk.specs.Answers.{IsAnswer}
use Rattle.td_walk.specs.Resolving.{resolved}
use Rattle.td_walk.specs.Visits.{visit_of, steps}
use Rattle.td_walk.specs.SubQueries.{link_step, proxy_step}
use Rattle.td_query_walk.specs.Examples.{here, far}
use Rattle.td_query_walk.proofs.examples.worked_answers.Goals as goal

pub returns : goal.returns
unfolding IsAnswer visit_of steps link_step proxy_step with_names resolved
returns c = λ word. record {
  both = record { ranked = here ∷ far ∷ []; in_order = refl; cut = refl; limits = refl };
  failed = record { ranked = here ∷ []; in_order = refl; cut = refl; limits = refl };
  cut = record { ranked = here ∷ far ∷ here ∷ []; in_order = refl; cut = refl; limits = refl };
  enough = record { ranked = here ∷ []; in_order = refl; cut = refl; limits = refl };
}

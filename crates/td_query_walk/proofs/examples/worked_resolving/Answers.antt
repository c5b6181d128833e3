use Rattle.std.proofs.Common.{refl}
use Rattle.td_ior.specs.Profiles.{first_iiop}
use Rattle.td_store.proofs.Shapes.{dynamic-shape, shape-ulong}
use Rattle.td_walk.specs.Resolving.{resolved, value_from}
use Rattle.td_query_walk.proofs.examples.worked_resolving.Goals as goal

pub returns : goal.returns
unfolding resolved value_from first_iiop
returns c = record {
  not_evaluated = rw (shape-ulong, dynamic-shape) refl;
  without_value = rw (shape-ulong, dynamic-shape) refl;
  with_value = rw (shape-ulong, dynamic-shape) refl;
  not_reached = λ a. refl;
}

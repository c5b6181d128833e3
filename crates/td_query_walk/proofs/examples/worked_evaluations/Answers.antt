use Rattle.std.proofs.Common.{[], ◌∷◌, refl}
use Rattle.td_typecode.specs.Layers.{value-any, value-code, value-object, value-struct}
use Rattle.td_typecode.specs.declared.code.TypeCode.TheVariants as code
use Rattle.td_typecode.specs.declared.code.Value.TheVariants as value
use Rattle.td_eval.specs.Mentioning.{with_names}
use Rattle.td_eval.specs.Properties.{property}
use Rattle.td_store.proofs.Shapes.{dynamic-shape}
use Rattle.td_store.specs.Examples.{nobody, nothing_more}
use Rattle.td_walk.specs.Resolving.{resolved, dynamic_named, dynamic_of, value_from}
use Rattle.td_walk.specs.Visits.{next_of, visit_of, steps}
use Rattle.td_walk.specs.SubQueries.{link_step, proxy_step}
use Rattle.td_query_walk.proofs.examples.worked_evaluations.Goals as goal

pub returns : goal.returns
unfolding next_of visit_of steps link_step proxy_step with_names resolved property dynamic_named dynamic_of value_from
returns c =
    let inner = value-struct (value.ObjRef nobody ∷ value.Code code.ULong ∷ value.AnyValue nothing_more ∷ []) in
    let first = value-object nobody in
    let second = value-code code.ULong in
    let third = value-any nothing_more in
    record {
      asked_for = rw (dynamic-shape, inner, first, second, third) refl;
      failed = rw (dynamic-shape, inner, first, second, third) refl;
    }

use Rattle.std.proofs.Common.{[], ◌∷◌, refl}
use Rattle.td_typecode.specs.Layers.{value-any, value-code, value-object, value-struct}
use Rattle.td_typecode.specs.declared.code.TypeCode.TheVariants as code
use Rattle.td_typecode.specs.declared.code.Value.TheVariants as value
use Rattle.td_eval.specs.Expansion.{part_text}
use Rattle.td_eval.specs.Mentioning.{with_names}
use Rattle.td_eval.specs.Properties.{property}
use Rattle.td_lang.specs.Recipes.{recipe_of}
use Rattle.td_store.proofs.Shapes.{dynamic-shape, shape-ulong}
use Rattle.td_store.specs.Examples.{nobody, nothing_more}
use Rattle.td_walk.specs.Resolving.{dynamic_named, dynamic_of, resolved}
use Rattle.td_walk.specs.SubQueries.{expansion_of, link_step, proxy_step}
use Rattle.td_walk.specs.Visits.{next_of, steps, visit_of}
use Rattle.td_query_walk.proofs.examples.worked_orders.Goals as goal

pub returns : goal.returns
unfolding next_of visit_of steps link_step proxy_step with_names resolved recipe_of expansion_of part_text property
    dynamic_named dynamic_of
returns c =
    let inner = value-struct (value.ObjRef nobody ∷ value.Code code.ULong ∷ value.AnyValue nothing_more ∷ []) in
    let first = value-object nobody in
    let second = value-code code.ULong in
    let third = value-any nothing_more in
    record {
      once = rw (dynamic-shape, inner, first, second, third, shape-ulong) refl;
      not_again = refl;
      both = (refl, (λ e. absurd cc), (refl, (λ e. absurd cc), refl));
    }

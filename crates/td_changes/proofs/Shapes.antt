-- The shape of a TypeCode without parameters, and that it is no graph.
use Rattle.std.specs.Prelude.{None}
use Rattle.std.proofs.Common.{◌≡◌, sym, ap, ◌∙◌}
use Rattle.td_typecode.specs.Same.{Shape, Component, kind_shape, graph_of, graph_in, shape, shape_layer, any_layer}
use Rattle.td_typecode.specs.Same.{arm_layer, member_layer}
use Rattle.td_typecode.specs.Layers.{code-boolean}
use Rattle.td_typecode.specs.Labels.{label_of_layer}
use Rattle.td_typecode.specs.declared.label.Label.{Label}
use Rattle.td_typecode.specs.declared.code.TypeCode.{fold-roll-TypeCode}
use Rattle.td_typecode.specs.declared.code.TypeCode.TheOpen as c
use Rattle.td_typecode.specs.declared.code.TypeCode.TheVariants as code
use Rattle.td_typecode.specs.declared.kinds.CodeKind.TheVariants as kind

pub shape-boolean : shape code.Boolean ≡ kind_shape kind.Boolean
shape-boolean = ap shape (sym code.rolls-Boolean) ∙ fold-roll-TypeCode Shape Label Label Component Component shape_layer
    label_of_layer any_layer arm_layer member_layer c.TypeCode::Boolean

pub graph-boolean : graph_of code.Boolean ≡ None
graph-boolean = ap graph_in code-boolean

-- TypeCodes that are no graphs, and in which none stands, by their layers.
use Rattle.std.proofs.Common.{◌≡◌, ℕ, true, not, ◌&&◌, nat_eq, ap, ◌∙◌}
use Rattle.std.proofs.lemmas.Bool.{and_parts, and_from}
use Rattle.std.specs.Prelude.{Option, None, refl, List}
use Rattle.tc_graph.specs.declared.node.Node.{Node}
use Rattle.td_typecode.specs.declared.code.TypeCode.{TypeCode, out-TypeCode}
use Rattle.td_typecode.specs.declared.code.TypeCode.TheVariants as code
use Rattle.td_typecode.specs.declared.code.TypeCode.TheOpen as c
use Rattle.td_typecode.specs.Kinds.{indirection}
use Rattle.td_typecode.specs.Labels.{Layer}
use Rattle.td_typecode.specs.Layers.{code-sequence}
use Rattle.td_typecode.specs.Same.{shape, shape_layer, graph_in, graph_of}
use Rattle.td_sameness.specs.Graphs.{are_trees, is_tree, stands_alone, StandsAlone}
use Rattle.td_sameness.proofs.PlainKinds.{layer_shapes, shape-at}

pub none-at : (t : TypeCode) (l : Layer) → out-TypeCode t ≡ l → graph_in l ≡ None → graph_of t ≡ None
none-at t l is none = ap (λ (x : Layer). graph_in x) is ∙ none

pub tree-at : (t : TypeCode) (l : Layer) → out-TypeCode t ≡ l → is_tree (shape_layer (layer_shapes l)) ≡ true
    → is_tree (shape t) ≡ true
tree-at t l is h = ap is_tree (shape-at t l is) ∙ h

pub alone-at : (t : TypeCode) (l : Layer) → out-TypeCode t ≡ l → graph_in l ≡ None → is_tree (shape t) ≡ true
    → StandsAlone t
alone-at t l is none h =
    ap (λ (o : Option (List Node)). stands_alone o (shape t)) (ap (λ (x : Layer). graph_in x) is ∙ none) ∙ h

pub sequence-alone : (item : TypeCode) (bound : ℕ) → is_tree (shape item) ≡ true → StandsAlone (code.Sequence item bound)
sequence-alone item bound h =
    let t = code.Sequence item bound in
    let parts = and_parts (not (nat_eq (shape item).kind indirection)) (are_trees (shape item).inner) h in
    let one : (not (nat_eq (shape item).kind indirection) && (are_trees (shape item).inner && true)) ≡ true =
    and_from (not (nat_eq (shape item).kind indirection)) _ parts.0 (and_from (are_trees (shape item).inner) true parts.1 refl)
    in
    alone-at t (c.Sequence item bound) (code-sequence item bound) refl
    (tree-at t (c.Sequence item bound) (code-sequence item bound) one)

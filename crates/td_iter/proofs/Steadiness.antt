-- An offer is at most twice as long in one place as in another.
use Rattle.std.proofs.Common.{◌≡◌, ℕ, zero, suc, Bool, true, false, List, [], ◌∷◌, map, Option, Some, None, sym, ap, subst, ◌∙◌, arith}
use Rattle.td_cdr.specs.declared.value_fault.ValueFault.{ValueFault}
use Rattle.td_cdr.specs.Gap.{flag}
use Rattle.td_cdr.specs.Format.{Piece, none_or, ◌then◌, row}
use Rattle.td_cdr.specs.Sound.{Sound, text, either, failure}
use Rattle.td_typecode.specs.declared.code.TypeCode.{TypeCode, TypeCode-F, out-TypeCode, ind-TypeCode, map-TypeCode}
use Rattle.td_typecode.specs.declared.code.TypeCode.{roll-TypeCode, out-roll-TypeCode}
use Rattle.td_typecode.specs.WritingCodes.{code_piece, arm_piece, member_piece, layer_pieces, code_piece-layer}
use Rattle.td_typecode.specs.WritingCodes.{arm_piece-is, member_piece-is, code_layer, kind_piece, header_piece}
use Rattle.td_typecode.specs.WritingCodes.{head_piece, encapsulation_piece}
use Rattle.td_typecode.specs.declared.kinds.CodeKind.{CodeKind}
use Rattle.td_typecode.specs.declared.kinds.CodeKind.TheVariants as kind
use Rattle.td_typecode.specs.Kinds.{number_of}
use Rattle.std.specs.Int.{w32, cast_unsigned}
use Rattle.tc_graph.specs.declared.node.Node.{Node}
use Rattle.tc_edges.specs.declared.edges.Edge.{Edge}
use Rattle.td_typecode.specs.NodeLabels.{along, most_levels}
use Rattle.td_typecode.specs.EdgeLayers.{EdgeLayer, node_layer}
use Rattle.td_typecode.specs.NodeValues.{node_parts, value_of_node, value_at_node}
use Rattle.td_typecode.specs.Outermost.{outer, outer_layer}
use Rattle.td_value.specs.declared.structures.Offer.{Offer}
use Rattle.td_value.specs.declared.structures.Property.{Property}
use Rattle.td_value.specs.Structures.{offer, property}
use Rattle.td_typecode.specs.declared.code.TypeCode.TheOpen as c
use Rattle.td_typecode.specs.declared.code.Value.{Value, out-Value}
use Rattle.td_typecode.specs.declared.code.Any.{Any}
use Rattle.td_typecode.specs.declared.code.Arm.{Arm, roll-Arm}
use Rattle.td_typecode.specs.declared.code.Member.{Member, roll-Member}
use Rattle.td_cdr.specs.Format.{number as number_format}
use Rattle.td_typecode.specs.Labels.{Layer, ValueLayer, no_value, label_of, label_piece, plain_piece}
use Rattle.td_typecode.specs.References.{reference}
use Rattle.td_typecode.specs.ValueLayers.{LayerParts, index_of, branch_labelled, each, branch_piece, union_piece}
use Rattle.td_typecode.specs.ValueLayers.{items_piece}
use Rattle.td_typecode.specs.ValueLayers.{sequence_piece, layer, text_in, any_in, code_in, reference_in, struct_in}
use Rattle.td_typecode.specs.ValueLayers.{items_in}
use Rattle.td_typecode.specs.Values.{code_parts, values, code_values, graph_values, left, anys, behind, any_value}
use Rattle.td_iter.specs.Filling.{count_before}
use Rattle.td_iter.proofs.Lengths.{Steady, four-steady, octets-length, label-steady, plain-steady}
use Rattle.td_iter.proofs.Lengths.{none-steady, then-steady, rows-steady, counted-steady, text-steady, reference-steady}
use Rattle.td_iter.proofs.PlacedLengths.{graph_piece-steady}

or_none-steady : {X : Type 0} (write : X → Piece) → ((x : X) → Steady (write x)) → (o : Option X)
    → Steady (none_or write o)
or_none-steady write h (Some x) = h x
or_none-steady write h None = none-steady

-- whatever stands for the TypeCodes in a layer
module _ {T R M : Type 0} (parts : LayerParts T R M) (any : Sound ValueFault Any) (code : Sound ValueFault TypeCode)
    (inner : T → Sound ValueFault Value)
    (any-steady : (a : Any) → Steady (any.format.writes a)) (code-steady : (t : TypeCode)
    → Steady (code.format.writes t))
    (inner-steady : (t : T) (v : Value) → Steady ((inner t).format.writes v)) where
  each-steady : (ms : List M) (vs : List Value) → Steady ((each parts any code inner ms).format.writes vs)
  each-steady [] vs = none-steady
  each-steady (m ∷ ms) [] = none-steady
  each-steady (m ∷ ms) (v ∷ vs) =
      then-steady ((inner (parts.member_code m)).format.writes v) ((each parts any code inner ms).format.writes vs)
      (inner-steady (parts.member_code m) v) (each-steady ms vs)

  branch-steady : (o : Option R) (v : Option Value) → Steady (branch_piece parts any code inner o v)
  branch-steady None v = none-steady
  branch-steady (Some chosen) None = none-steady
  branch-steady (Some chosen) (Some v) = inner-steady (parts.arm_code chosen) v

  union-steady : (default : Option ℕ) (arms : List R) (l : ValueLayer)
      → Steady (union_piece parts any code inner default arms l)
  union-steady default arms (c.Value::Union label arm) =
      then-steady (plain_piece label)
      (branch_piece parts any code inner (branch_labelled parts.has_label default label arms) arm)
      (plain-steady label) (branch-steady (branch_labelled parts.has_label default label arms) arm)
  union-steady default arms l = none-steady

  pub layer-steady : (graphs : List Node → Sound ValueFault Value)
      (graph-steady : (graph : List Node) (v : Value) → Steady ((graphs graph).format.writes v))
      (n : ℕ) (l : TypeCode-F T Value Any R M) (v : Value)
      → Steady ((layer parts any code inner graphs n l).format.writes v)
  layer-steady graphs graph-steady n c.Null v = none-steady
  layer-steady graphs graph-steady n c.Void v = none-steady
  layer-steady graphs graph-steady n c.TypeCode::Short v = plain-steady v
  layer-steady graphs graph-steady n c.TypeCode::Long v = plain-steady v
  layer-steady graphs graph-steady n c.TypeCode::UShort v = plain-steady v
  layer-steady graphs graph-steady n c.TypeCode::ULong v = plain-steady v
  layer-steady graphs graph-steady n c.TypeCode::Boolean v = plain-steady v
  layer-steady graphs graph-steady n c.TypeCode::Char v = plain-steady v
  layer-steady graphs graph-steady n c.TypeCode::Octet v = plain-steady v
  layer-steady graphs graph-steady n c.TypeCode::LongLong v = plain-steady v
  layer-steady graphs graph-steady n c.TypeCode::ULongLong v = plain-steady v
  layer-steady graphs graph-steady n c.AnyCode v = or_none-steady any.format.writes any-steady (any_in (out-Value v))
  layer-steady graphs graph-steady n c.TypeCode::Code v = or_none-steady code.format.writes code-steady (code_in (out-Value v))
  layer-steady graphs graph-steady n (c.TypeCode::Str bound) v = or_none-steady text.format.writes text-steady (text_in (out-Value v))
  layer-steady graphs graph-steady n (c.TypeCode::ObjRef id name) v =
      or_none-steady reference.format.writes reference-steady (reference_in (out-Value v))
  layer-steady graphs graph-steady n (c.TypeCode::Struct id name members) v =
      or_none-steady (each parts any code inner members).format.writes (each-steady members) (struct_in (out-Value v))
  layer-steady graphs graph-steady n (c.TypeCode::Union id name switch default arms) v = union-steady (index_of default) arms (out-Value v)
  layer-steady graphs graph-steady n (c.TypeCode::Enum id name names) v = plain-steady v
  layer-steady graphs graph-steady n (c.Sequence item bound) v =
      or_none-steady (sequence_piece parts any code inner item) (counted-steady (inner item).format.writes
      (inner-steady item)) (items_in (out-Value v))
  layer-steady graphs graph-steady n (c.Array item len) v =
      or_none-steady (items_piece parts any code inner item) (rows-steady (inner item).format.writes (inner-steady item))
      (items_in (out-Value v))
  layer-steady graphs graph-steady n (c.Alias id name item) v = inner-steady item v
  layer-steady graphs graph-steady n (c.Except id name members) v = none-steady
  layer-steady graphs graph-steady n (c.Linked graph) v = graph-steady graph v

enclosed-steady : (inner : Piece) → Steady inner → Steady (encapsulation_piece inner)
enclosed-steady inner h = record {
  long = λ o u place base. omega (
    arith,
    h.long o u 1 1,
    octets-length o place (flag o ∷ inner o 1),
    octets-length u base (flag u ∷ inner u 1),
  );
}

header-steady : (id name : List ℕ) → Steady (header_piece id name)
header-steady id name = then-steady (text.format.writes id) (text.format.writes name) (text-steady id)
    (text-steady name)

mapped-steady : {X Y : Type 0} (f : X → Y) (write : Y → Piece) → ((x : X) → Steady (write (f x))) → (xs : List X)
    → Steady (row (map write (map f xs)))
mapped-steady f write h [] = none-steady
mapped-steady f write h (x ∷ xs) =
    then-steady (write (f x)) (row (map write (map f xs))) (h x) (mapped-steady f write h xs)

kind-steady : (k : CodeKind) → Steady (kind_piece k)
kind-steady k = four-steady (number_of k)

module _ {T V A R M : Type 0} (ft : T → TypeCode) (fv : V → Value) (fa : A → Any) (fr : R → Arm) (fm : M → Member)
    (st : (t : T) → Steady (code_piece (ft t))) (sr : (r : R) → Steady (arm_piece (fr r))) (sm : (m : M)
    → Steady (member_piece (fm m))) where
  behind_kind : (k : CodeKind) (inner : Piece) → Steady inner → Steady (kind_piece k then encapsulation_piece inner)
  behind_kind k inner h =
      then-steady (kind_piece k) (encapsulation_piece inner) (kind-steady k) (enclosed-steady inner h)

  listed : (id name : List ℕ) (n : ℕ) (rest : Piece) → Steady rest
      → Steady (header_piece id name then (number_format 4).writes n then rest)
  listed id name n rest h =
      then-steady (header_piece id name) ((number_format 4).writes n then rest) (header-steady id name)
      (then-steady ((number_format 4).writes n) rest (four-steady n) h)

  code_parts-steady : (y : c.TypeCode-F T V A R M)
      → Steady (code_layer (layer_pieces (map-TypeCode T V A R M TypeCode Value Any Arm Member ft fv fa fr fm y)))
  code_parts-steady c.Null = kind-steady kind.Null
  code_parts-steady c.Void = kind-steady kind.Void
  code_parts-steady c.TypeCode::Short = kind-steady kind.Short
  code_parts-steady c.TypeCode::Long = kind-steady kind.Long
  code_parts-steady c.TypeCode::UShort = kind-steady kind.UShort
  code_parts-steady c.TypeCode::ULong = kind-steady kind.ULong
  code_parts-steady c.TypeCode::Boolean = kind-steady kind.Boolean
  code_parts-steady c.TypeCode::Char = kind-steady kind.Char
  code_parts-steady c.TypeCode::Octet = kind-steady kind.Octet
  code_parts-steady c.AnyCode = kind-steady kind.AnyCode
  code_parts-steady c.TypeCode::Code = kind-steady kind.Code
  code_parts-steady (c.TypeCode::ObjRef id name) = behind_kind kind.ObjRef _ (header-steady id name)
  code_parts-steady (c.TypeCode::Struct id name members) =
      behind_kind kind.Struct _ (listed id name _ _ (mapped-steady fm member_piece sm members))
  code_parts-steady (c.TypeCode::Union id name switch default arms) =
      behind_kind kind.Union _ (then-steady (header_piece id name then code_piece (ft switch)) _
      (then-steady (header_piece id name) (code_piece (ft switch)) (header-steady id name) (st switch))
      (then-steady (head_piece default _) _ (then-steady ((number_format 4).writes (cast_unsigned w32 default))
      ((number_format 4).writes _) (four-steady _) (four-steady _)) (mapped-steady fr arm_piece sr arms)))
  code_parts-steady (c.TypeCode::Enum id name names) =
      behind_kind kind.Enum _ (listed id name _ _ (rows-steady text.format.writes text-steady names))
  code_parts-steady (c.TypeCode::Str bound) =
      then-steady (kind_piece kind.Str) ((number_format 4).writes bound) (kind-steady kind.Str) (four-steady bound)
  code_parts-steady (c.Sequence item bound) =
      behind_kind kind.Sequence _ (then-steady (code_piece (ft item)) ((number_format 4).writes bound) (st item)
      (four-steady bound))
  code_parts-steady (c.Array item len) =
      behind_kind kind.Array _
      (then-steady (code_piece (ft item)) ((number_format 4).writes len) (st item) (four-steady len))
  code_parts-steady (c.Alias id name item) =
      behind_kind kind.Alias _ (then-steady (header_piece id name) (code_piece (ft item)) (header-steady id name)
      (st item))
  code_parts-steady (c.Except id name members) =
      behind_kind kind.Except _ (listed id name _ _ (mapped-steady fm member_piece sm members))
  code_parts-steady c.TypeCode::LongLong = kind-steady kind.LongLong
  code_parts-steady c.TypeCode::ULongLong = kind-steady kind.ULongLong
  code_parts-steady (c.Linked graph) = none-steady

rolled : (x : Layer) → code_piece (roll-TypeCode x) ≡ code_layer (layer_pieces x)
rolled x = code_piece-layer (roll-TypeCode x) ∙ ap (λ (l : Layer). code_layer (layer_pieces l)) (out-roll-TypeCode x)

arm-made : (a : Arm) → Steady (code_piece a.code) → Steady (arm_piece a)
arm-made a h =
    subst Steady (sym (arm_piece-is a)) (then-steady (label_piece (label_of a.label))
    (text.format.writes a.name then code_piece a.code) (label-steady (label_of a.label))
    (then-steady (text.format.writes a.name) (code_piece a.code) (text-steady a.name) h))

member-made : (m : Member) → Steady (code_piece m.code) → Steady (member_piece m)
member-made m h =
    subst Steady (sym (member_piece-is m)) (then-steady (text.format.writes m.name) (code_piece m.code)
    (text-steady m.name) h)

-- each part of a layer stands with its proof
pub code-steady : (t : TypeCode) → Steady (code_piece t)
code-steady = ind-TypeCode (λ t. Steady (code_piece t)) (λ v. Unit {0}) (λ a. Unit {0}) (λ a. Steady (arm_piece a))
    (λ m. Steady (member_piece m))
    (λ x y is. subst Steady (sym (rolled x)) (subst (λ (l : Layer). Steady (code_layer (layer_pieces l))) is
    (code_parts-steady (λ e. e.0) (λ e. e.0) (λ e. e.0) (λ e. e.0) (λ e. e.0) (λ e. e.1) (λ e. e.1) (λ e. e.1)
    y)))
    (λ x y is. tt) (λ x y is. tt)
    (λ x y is. arm-made (roll-Arm x) (subst (λ (t : TypeCode). Steady (code_piece t)) (ap (λ z. z.code) is) y.code.1))
    (λ x y is. member-made (roll-Member x) (subst (λ (t : TypeCode). Steady (code_piece t)) (ap (λ z. z.code) is)
    y.code.1))

layer_written-steady : (n : ℕ) (p : Piece) → Steady p → (l : Layer) → Steady (outer_layer n p l)
layer_written-steady n p h (c.Linked g) = graph_piece-steady n g
layer_written-steady n p h l = h

outer-steady : (n : ℕ) (t : TypeCode) → Steady ((outer n).format.writes t)
outer-steady n t = layer_written-steady n (code_piece t) (code-steady t) (out-TypeCode t)

values-steady : (any : Sound ValueFault Any) (code : Sound ValueFault TypeCode)
    (graphs : List Node → Sound ValueFault Value)
    → ((a : Any) → Steady (any.format.writes a)) → ((t : TypeCode) → Steady (code.format.writes t))
    → ((graph : List Node) (v : Value) → Steady ((graphs graph).format.writes v))
    → (n : ℕ) (t : TypeCode) (v : Value) → Steady ((values any code graphs n t).format.writes v)
unfolding values
values-steady any code graphs a c g zero t v = none-steady
values-steady any code graphs a c g (suc n) t v =
    layer-steady code_parts any code (values any code graphs n) a c (values-steady any code graphs a c g n) graphs g n
    (out-TypeCode t) v

-- ---- under a graph

either-steady : (b : Bool) (g k : Sound ValueFault Value) (v : Value) → Steady (g.format.writes v)
    → Steady (k.format.writes v) → Steady ((either b g k).format.writes v)
either-steady true g k v p q = p
either-steady false g k v p q = q

along-steady : (behind here : ℕ → Sound ValueFault Value)
    → ((i : ℕ) (v : Value) → Steady ((behind i).format.writes v))
    → ((i : ℕ) (v : Value) → Steady ((here i).format.writes v))
    → (e : Edge) (v : Value) → Steady ((along behind here e).format.writes v)
along-steady behind here b h e v =
    either-steady e.is_indirection (behind e.place) (here e.place) v (b e.place v) (h e.place v)

module _ (levels : ℕ) (any : Sound ValueFault Any) (code : Sound ValueFault TypeCode) (graph : List Node)
    (behind : ℕ → Sound ValueFault Value)
    (a : (x : Any) → Steady (any.format.writes x)) (c : (t : TypeCode) → Steady (code.format.writes t))
    (b : (i : ℕ) (v : Value) → Steady ((behind i).format.writes v)) where
  of_node-steady : (i : ℕ) (inner : Edge → Sound ValueFault Value)
      → ((e : Edge) (v : Value) → Steady ((inner e).format.writes v)) → (n : ℕ) (l : Option EdgeLayer) (v : Value)
      → Steady ((value_of_node levels any code graph behind i inner n l).format.writes v)
  of_node-steady i inner h n (Some l) v =
      layer-steady (node_parts levels graph i) any code inner a c h (λ g. failure no_value) (λ g u. none-steady) n l v
  of_node-steady i inner h n None v = none-steady

  at_node-steady : (n i : ℕ) (v : Value)
      → Steady ((value_at_node levels any code graph behind n i).format.writes v)
  unfolding value_at_node
  at_node-steady zero i v = none-steady
  at_node-steady (suc n) i v =
      of_node-steady i (along behind (value_at_node levels any code graph behind n))
      (along-steady behind (value_at_node levels any code graph behind n) b (at_node-steady n)) n (node_layer graph i) v

-- ---- levels

record LeftSteady (n : ℕ) : Type 0 where
  any : (a : Any) → Steady ((anys n).format.writes a)
  behind : (graph : List Node) (i : ℕ) (v : Value) → Steady ((behind n graph i).format.writes v)

left-steady : (n : ℕ) → LeftSteady n
unfolding left
left-steady zero = record {
  any = λ a. then-steady ((outer zero).format.writes a.code) (λ order place. []) (outer-steady zero a.code) none-steady;
  behind = λ graph i v. none-steady;
}
left-steady (suc n) =
    let less = left-steady n in
    let under : (graph : List Node) (i : ℕ) (v : Value)
    → Steady ((value_at_node n (anys n) (outer n) graph (behind n graph) most_levels i).format.writes v) =
    λ graph. at_node-steady n (anys n) (outer n) graph (behind n graph) less.any (outer-steady n) (less.behind graph)
    most_levels in
    record {
      any = λ a. then-steady ((outer (suc n)).format.writes a.code)
          ((code_values n (suc n) a.code).format.writes a.value)
          (outer-steady (suc n) a.code) (values-steady (anys n) (outer n) (graph_values n) less.any (outer-steady n)
          (λ graph. under graph 0) (suc n) a.code a.value);
      behind = under;
    }

pub anys-steady : (n : ℕ) (a : Any) → Steady ((anys n).format.writes a)
anys-steady n = (left-steady n).any

pub property-steady : (p : Property) → Steady (property.format.writes p)
property-steady p = then-steady (text.format.writes p.name) (any_value.format.writes p.value) (text-steady p.name)
    (anys-steady 16 p.value)

pub offer-steady : (o : Offer) → Steady (offer.format.writes o)
offer-steady o = then-steady (reference.format.writes o.reference) (count_before property.format.writes o.properties)
    (reference-steady o.reference) (counted-steady property.format.writes property-steady o.properties)

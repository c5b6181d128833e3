use Rattle.std.proofs.Common.{◌-◌, ◌<◌, length, refl, sym, subst, ◌∙◌, arith, rules}
use Rattle.std.specs.Prelude.{IsTrue}
use Rattle.std.proofs.lemmas.Result.{err_from_is_err_and}
use Rattle.td_cdr.specs.Format.{array_format, Gives}
use Rattle.td_cdr.specs.Sound.{Sound}
use Rattle.td_cdr.specs.declared.value_fault.ValueFault.{ValueFault}
use Rattle.td_typecode.specs.declared.code.Value.{Value}
use Rattle.td_cdr.specs.ValueFaults.{is_memory}
use Rattle.td_cdr.proofs.SequenceReading.{goes_on, ends, is_done}
use Rattle.td_typecode.specs.declared.code.TypeCode.{out-TypeCode}
use Rattle.td_typecode.specs.declared.code.TypeCode.TheVariants as code
use Rattle.td_typecode.specs.declared.code.TypeCode.TheOpen as layer_of
use Rattle.td_typecode.specs.EdgeLayers.{is_union}
use Rattle.td_typecode.specs.Outermost.{outer}
use Rattle.td_typecode.specs.Layers.{code-null, code-void}
use Rattle.td_typecode.specs.Layers.{code-octet, code-struct, code-union}
use Rattle.td_typecode.specs.Layers.{code-sequence, code-array, code-alias, code-any, code-str}
use Rattle.td_typecode.specs.Layers.{code-code, code-object, code-except}
use Rattle.tc_graph.specs.Nodes.{node_at}
use Rattle.td_typecode.specs.Values.{anys, code_values, graph_values, edge_values, code_parts, each}
use Rattle.td_typecode.proofs.AtLayers.{values-reads, graph-reads, any-fails, any-codeless, any-none, any-read}
use Rattle.td_typecode.proofs.NodeKinds.{union-edges, union-reads, union-labelless}
use Rattle.td_typecode.proofs.NodeKinds.{sequence-countless, sequence-fails, sequence-read}
use Rattle.td_typecode.proofs.NodeKinds.{array-fails, array-read, all_of_them, member-read, member-fails, members-read}
use Rattle.td_typecode.proofs.OfNodes.{IsLeaf, along-on, kind-reads, kindless-reads, leaf-reads}
use Rattle.td_typecode.proofs.OfPlainKind.{label-else, label-reads}
use Rattle.td_typecode.proofs.ReadParts.{front-none, begins, each-goes-on, each-fails, each-done}
use Rattle.td_typecode.proofs.values.+values.Goals as goal

pub items_at-returns-in_err-value : goal.items_at-returns-in_err-value
items_at-returns-in_err-value t c =
    let p = err_from_is_err_and c.from_residual.result c.from_residual.ensures.1 in
    let g = (code_values c.args.levels c.args.depth c.args.item.now).format in
    rw (p.1, p.2) (ends is_memory g c.loop.values c.args.count c.loop.counter c.loop.r c.value_at.new.r _
    ((array_format g c.args.count).reads c.args.r.now) c.loop-test.true c.in_err-value.ensures c.loop.invariant)

pub items_at-loop-preserved : goal.items_at-loop-preserved
items_at-loop-preserved t c =
    let g = (code_values c.args.levels c.args.depth c.args.item.now).format in
    rw c.in_ok-push.ensures.ok
    (goes_on g c.loop.values c.args.count c.loop.counter c.loop.r _ _
    ((array_format g c.args.count).reads c.args.r.now) c.loop-test.true c.in_ok-value.ensures c.loop.invariant)

pub items_at-returns : goal.items_at-returns
items_at-returns t c =
    let g = (code_values c.args.levels c.args.depth c.args.item.now).format in
    is_done g c.loop.values c.args.count c.loop.counter c.loop.r ((array_format g c.args.count).reads c.args.r.now)
    c.loop-test.false c.loop.invariant

pub value_at-returns-in-Struct : goal.value_at-returns-in-Struct
value_at-returns-in-Struct t c =
    rw (
      c.in-Struct.is,
      values-reads (anys c.args.levels) (outer c.args.levels) (graph_values c.args.levels) c.args.depth
          (code.Struct c.in-Struct.id c.in-Struct.name c.in-Struct.members)
          (layer_of.TypeCode::Struct c.in-Struct.id c.in-Struct.name c.in-Struct.members) c.if-depth-eq0.false
          (code-struct c.in-Struct.id c.in-Struct.name c.in-Struct.members) c.args.r.now,
      ← c.as_slice.ensures,
    )
    c.struct_at.ensures

pub value_at-returns-in-Union : goal.value_at-returns-in-Union
value_at-returns-in-Union t c =
    rw (
      c.in-Union.is,
      values-reads (anys c.args.levels) (outer c.args.levels) (graph_values c.args.levels) c.args.depth
          (code.Union c.in-Union.id c.in-Union.name c.in-Union.switch c.in-Union.default c.in-Union.arms)
          (layer_of.TypeCode::Union c.in-Union.id c.in-Union.name c.in-Union.switch c.in-Union.default c.in-Union.arms)
          c.if-depth-eq0.false
          (code-union c.in-Union.id c.in-Union.name c.in-Union.switch c.in-Union.default c.in-Union.arms) c.args.r.now,
      ← c.as_slice-in-Union.ensures,
      ← c.get.ensures,
      ← c.index_of.ensures,
    )
    c.union_at.ensures

pub value_at-returns-in-Sequence : goal.value_at-returns-in-Sequence
value_at-returns-in-Sequence t c =
    rw (
      c.in-Sequence.is,
      values-reads (anys c.args.levels) (outer c.args.levels) (graph_values c.args.levels) c.args.depth
          (code.Sequence c.in-Sequence.item c.in-Sequence.bound)
          (layer_of.Sequence c.in-Sequence.item c.in-Sequence.bound) c.if-depth-eq0.false
          (code-sequence c.in-Sequence.item c.in-Sequence.bound) c.args.r.now,
      ← c.get-in-Sequence.ensures,
    )
    c.sequence_at.ensures

pub value_at-returns-in-Array : goal.value_at-returns-in-Array
value_at-returns-in-Array t c =
    rw (
      c.in-Array.is,
      values-reads (anys c.args.levels) (outer c.args.levels) (graph_values c.args.levels) c.args.depth
          (code.Array c.in-Array.item c.in-Array.len) (layer_of.Array c.in-Array.item c.in-Array.len)
          c.if-depth-eq0.false
          (code-array c.in-Array.item c.in-Array.len) c.args.r.now,
      ← c.get-in-Array.ensures,
    )
    c.array_at.ensures

pub any_at-returns-in-Err : goal.any_at-returns-in-Err
any_at-returns-in-Err t c =
    any-fails c.args.levels c.args.r.now c.outer_at.new.r c.value_at.new.r c.in_ok-code.code c.in-Err.fault
    c.if-levels-eq0.false c.in_ok-code.ensures c.in-Err.ensures

pub value_at-returns-in-Octet : goal.value_at-returns-in-Octet
value_at-returns-in-Octet t c =
    rw (
      c.in-Octet.is,
      values-reads (anys c.args.levels) (outer c.args.levels) (graph_values c.args.levels) c.args.depth code.Octet
          layer_of.TypeCode::Octet c.if-depth-eq0.false code-octet c.args.r.now,
    )
    c.octet_at.ensures

pub value_at-returns-in-Null : goal.value_at-returns-in-Null
value_at-returns-in-Null t c =
    rw (
      c.in-Null.is,
      values-reads (anys c.args.levels) (outer c.args.levels) (graph_values c.args.levels) c.args.depth code.Null layer_of.Null
          c.if-depth-eq0.false code-null c.args.r.now,
    )
    refl

pub value_at-returns-in-Void : goal.value_at-returns-in-Void
value_at-returns-in-Void t c =
    rw (
      c.in-Void.is,
      values-reads (anys c.args.levels) (outer c.args.levels) (graph_values c.args.levels) c.args.depth code.Void layer_of.Void
          c.if-depth-eq0.false code-void c.args.r.now,
    )
    refl

pub value_at-returns-in-Alias : goal.value_at-returns-in-Alias
value_at-returns-in-Alias t c =
    rw (
      c.in-Alias.is,
      values-reads (anys c.args.levels) (outer c.args.levels) (graph_values c.args.levels) c.args.depth
          (code.Alias c.in-Alias.id c.in-Alias.name c.in-Alias.item)
          (layer_of.Alias c.in-Alias.id c.in-Alias.name c.in-Alias.item) c.if-depth-eq0.false
          (code-alias c.in-Alias.id c.in-Alias.name c.in-Alias.item) c.args.r.now,
      ← c.get-in-Alias.ensures,
    )
    c.value_at.ensures

pub value_at-returns-in-AnyCode : goal.value_at-returns-in-AnyCode
value_at-returns-in-AnyCode t c =
    rw (
      c.in-AnyCode.is,
      values-reads (anys c.args.levels) (outer c.args.levels) (graph_values c.args.levels) c.args.depth code.AnyCode layer_of.AnyCode
          c.if-depth-eq0.false code-any c.args.r.now,
    )
    c.inner_any_at.ensures

pub value_at-returns-in-Str : goal.value_at-returns-in-Str
value_at-returns-in-Str t c =
    rw (
      c.in-Str.is,
      values-reads (anys c.args.levels) (outer c.args.levels) (graph_values c.args.levels) c.args.depth (code.Str c.in-Str.bound)
          (layer_of.TypeCode::Str c.in-Str.bound) c.if-depth-eq0.false (code-str c.in-Str.bound) c.args.r.now,
    )
    c.string_at.ensures

pub value_at-returns-in-Code : goal.value_at-returns-in-Code
value_at-returns-in-Code t c =
    rw (
      c.in-Code.is,
      values-reads (anys c.args.levels) (outer c.args.levels) (graph_values c.args.levels) c.args.depth code.Code layer_of.TypeCode::Code
          c.if-depth-eq0.false code-code c.args.r.now,
    )
    c.inner_code_at.ensures

pub value_at-returns-in-ObjRef : goal.value_at-returns-in-ObjRef
value_at-returns-in-ObjRef t c =
    rw (
      c.in-ObjRef.is,
      values-reads (anys c.args.levels) (outer c.args.levels) (graph_values c.args.levels) c.args.depth
          (code.ObjRef c.in-ObjRef.id c.in-ObjRef.name) (layer_of.TypeCode::ObjRef c.in-ObjRef.id c.in-ObjRef.name)
          c.if-depth-eq0.false (code-object c.in-ObjRef.id c.in-ObjRef.name) c.args.r.now,
    )
    c.reference_at.ensures

pub value_at-returns-in-Except : goal.value_at-returns-in-Except
value_at-returns-in-Except t c =
    rw (
      c.in-Except.is,
      values-reads (anys c.args.levels) (outer c.args.levels) (graph_values c.args.levels) c.args.depth
          (code.Except c.in-Except.id c.in-Except.name c.in-Except.members)
          (layer_of.Except c.in-Except.id c.in-Except.name c.in-Except.members) c.if-depth-eq0.false
          (code-except c.in-Except.id c.in-Except.name c.in-Except.members) c.args.r.now,
      c.number.ensures,
    )
    refl

pub value_at-returns-in-Linked : goal.value_at-returns-in-Linked
value_at-returns-in-Linked t c =
    rw (graph-reads (anys c.args.levels) (outer c.args.levels) (graph_values c.args.levels) c.args.depth
    c.args.code.now c.in-Linked.graph c.if-depth-eq0.false c.in-Linked.is c.args.r.now)
    c.graph_at.ensures

pub boxed_value_at-returns : goal.boxed_value_at-returns
boxed_value_at-returns t c = rw c.in_ok-new.ensures c.in_ok-value.ensures

pub inner_any_at-returns : goal.inner_any_at-returns
inner_any_at-returns t c = rw (c.in_ok-new.ensures, c.in_ok-any.ensures) refl

pub struct_at-returns : goal.struct_at-returns
struct_at-returns t c = rw c.in_ok-values.ensures refl

pub array_at-returns : goal.array_at-returns
array_at-returns t c = rw c.in_ok-items.ensures refl

pub sequence_at-returns : goal.sequence_at-returns
sequence_at-returns t c = rw (c.in_ok-count.ensures, c.in_ok-items.ensures) refl

pub any_at-returns-in_err-code : goal.any_at-returns-in_err-code
any_at-returns-in_err-code t c =
    let p = err_from_is_err_and c.from_residual.result c.from_residual.ensures.1 in
    rw (p.1, p.2) (any-codeless c.args.levels c.args.r.now c.outer_at.new.r _ c.in_err-code.ensures)

pub any_at-returns-in-Ok : goal.any_at-returns-in-Ok
any_at-returns-in-Ok t c =
    any-read c.args.levels c.args.r.now c.outer_at.new.r c.value_at.new.r c.in_ok-code.code c.in-Ok.value
    c.if-levels-eq0.false c.in_ok-code.ensures c.in-Ok.ensures

pub items_at-loop-init : goal.items_at-loop-init
items_at-loop-init t c =
    begins ((code_values c.args.levels c.args.depth) c.args.item.now).format
    c.new-values.result c.args.count (c.args.count - 0) c.args.r.now c.new-values.ensures (omega arith)

pub each_at-loop-member-init : goal.each_at-loop-member-init
each_at-loop-member-init t c =
    let inner = (code_values c.args.levels c.args.depth) in
    front-none c.new-values.result
    ((each (anys c.args.levels) (outer c.args.levels) inner c.args.members.now).format.reads c.args.r.now)
    c.new-values.ensures

pub each_at-loop-member-preserved : goal.each_at-loop-member-preserved
each_at-loop-member-preserved t c =
    let inner = (code_values c.args.levels c.args.depth) in
    rw c.in_ok-push.ensures.ok
    (each-goes-on code_parts (anys c.args.levels) (outer c.args.levels) inner c.loop-member.values c.args.members.now
    c.loop-member.member-index c.member-item.result c.loop-member.r _ _
    ((each (anys c.args.levels) (outer c.args.levels) inner c.args.members.now).format.reads c.args.r.now)
    c.loop-member-test.true c.member-item.is c.in_ok-value.ensures c.loop-member.invariant)

pub each_at-returns-in_err-value : goal.each_at-returns-in_err-value
each_at-returns-in_err-value t c =
    let p = err_from_is_err_and c.from_residual.result c.from_residual.ensures.1 in
    let inner = (code_values c.args.levels c.args.depth) in
    rw (p.1, p.2) (each-fails code_parts (anys c.args.levels) (outer c.args.levels) inner c.loop-member.values
    c.args.members.now c.loop-member.member-index c.member-item.result c.loop-member.r c.value_at.new.r _
    ((each (anys c.args.levels) (outer c.args.levels) inner c.args.members.now).format.reads c.args.r.now)
    c.loop-member-test.true c.member-item.is c.in_err-value.ensures c.loop-member.invariant)

pub each_at-returns : goal.each_at-returns
each_at-returns t c =
    let inner = (code_values c.args.levels c.args.depth) in
    each-done code_parts (anys c.args.levels) (outer c.args.levels) inner c.loop-member.values c.args.members.now
    c.loop-member.member-index c.loop-member.r
    ((each (anys c.args.levels) (outer c.args.levels) inner c.args.members.now).format.reads c.args.r.now)
    c.loop-member-test.false c.loop-member.invariant

pub value_at-returns-in_default : goal.value_at-returns-in_default
value_at-returns-in_default t c =
    let n = c.in_default in
    let is =
    label-else c.args.code.now n.not-Null n.not-Void n.not-AnyCode n.not-Code n.not-Octet n.not-Str
    n.not-ObjRef n.not-Struct
    n.not-Union n.not-Sequence n.not-Array n.not-Alias n.not-Except n.not-Linked in
    let code = c.args.code.now in
    let one = code_values c.args.levels (c.args.depth - 1) in
    rw (
      values-reads (anys c.args.levels) (outer c.args.levels) (graph_values c.args.levels) c.args.depth code (out-TypeCode code)
          c.if-depth-eq0.false refl c.args.r.now,
      label-reads (anys c.args.levels) (outer c.args.levels) one (graph_values c.args.levels) (c.args.depth - 1) code is c.args.r.now,
    )
    c.label_at.ensures

pub any_at-returns-then-levels-eq0 : goal.any_at-returns-then-levels-eq0
any_at-returns-then-levels-eq0 t c =
    rw c.aligned.ensures
    (any-none c.args.levels c.args.r.now c.outer_at.new.r c.in_ok-code.code c.if-levels-eq0.true c.in_ok-code.ensures)

pub node_at-returns-in-None : goal.node_at-returns-in-None
node_at-returns-in-None t c =
    let none = rw c.node.ensures.value at (sym c.kind_of_number.ensures ∙ c.in-None.is) in
    rw c.aligned-in-None.ensures (kindless-reads c.args.levels c.args.graph.now c.args.depth c.args.place
    c.if-depth-eq0.false none c.args.r.now)

pub node_at-returns-in-Some : goal.node_at-returns-in-Some
node_at-returns-in-Some t c =
    let is = rw c.node.ensures.value at (sym c.kind_of_number.ensures ∙ c.in-Some.is) in
    rw (kind-reads c.args.levels c.args.graph.now c.args.depth c.args.place c.in-Some.kind c.if-depth-eq0.false is
    c.args.r.now) c.node_kind_at.ensures

pub node_kind_at-returns-in_default : goal.node_kind_at-returns-in_default
node_kind_at-returns-in_default t c =
    let n = c.in_default in
    let leaf : IsLeaf c.args.kind = record {
      no_any = n.not-AnyCode;
      no_code = n.not-Code;
      no_struct = n.not-Struct;
      no_union = n.not-Union;
      no_sequence = n.not-Sequence;
      no_array = n.not-Array;
      no_alias = n.not-Alias;
    } in
    rw (leaf-reads c.args.levels c.args.graph.now c.args.depth c.args.place c.args.kind leaf c.args.r.now)
    (rw c.node.ensures.value at c.leaf_at.ensures)

-- ---- under a node

pub graph_at-returns : goal.graph_at-returns
graph_at-returns t c = rw c.in_ok-graph.ensures.value at c.node_at.ensures

pub along_at-returns : goal.along_at-returns
along_at-returns t c =
    let on =
    along-on c.args.levels c.args.graph.now c.args.depth c.args.edge c.if-levels-eq0.false c.if-not-edge.false in
    subst
    (λ (g : Sound ValueFault Value). Gives is_memory c.node_at-2.new.r c.node_at-2.result (g.format.reads c.args.r.now))
    (sym on) c.node_at-2.ensures

pub boxed_along_at-returns : goal.boxed_along_at-returns
boxed_along_at-returns t c = rw c.in_ok-new.ensures c.in_ok-value.ensures

pub items_along_at-loop-init : goal.items_along_at-loop-init
items_along_at-loop-init t c =
    begins (edge_values c.args.levels c.args.graph.now c.args.depth c.args.edge).format
    c.new-values.result c.args.count (c.args.count - 0) c.args.r.now c.new-values.ensures (omega arith)

pub items_along_at-loop-preserved : goal.items_along_at-loop-preserved
items_along_at-loop-preserved t c =
    let g = (edge_values c.args.levels c.args.graph.now c.args.depth c.args.edge).format in
    rw c.in_ok-push.ensures.ok
    (goes_on g c.loop.values c.args.count c.loop.counter c.loop.r _ _
    ((array_format g c.args.count).reads c.args.r.now) c.loop-test.true c.in_ok-value.ensures c.loop.invariant)

pub items_along_at-returns-in_err-value : goal.items_along_at-returns-in_err-value
items_along_at-returns-in_err-value t c =
    let p = err_from_is_err_and c.from_residual.result c.from_residual.ensures.1 in
    let g = (edge_values c.args.levels c.args.graph.now c.args.depth c.args.edge).format in
    rw (p.1, p.2) (ends is_memory g c.loop.values c.args.count c.loop.counter c.loop.r c.along_at.new.r _
    ((array_format g c.args.count).reads c.args.r.now) c.loop-test.true c.in_err-value.ensures c.loop.invariant)

pub items_along_at-returns : goal.items_along_at-returns
items_along_at-returns t c =
    let g = (edge_values c.args.levels c.args.graph.now c.args.depth c.args.edge).format in
    is_done g c.loop.values c.args.count c.loop.counter c.loop.r ((array_format g c.args.count).reads c.args.r.now)
    c.loop-test.false c.loop.invariant

pub node_sequence_at-returns-in_err-count : goal.node_sequence_at-returns-in_err-count
node_sequence_at-returns-in_err-count t c =
    let p = err_from_is_err_and c.from_residual.result c.from_residual.ensures.1 in
    let some = rw c.node-node.ensures.value at (sym c.has_item.ensures ∙ c.if-not-has_item.false) in
    rw (p.1, p.2) (sequence-countless c.args.levels c.args.graph.now c.args.depth c.args.place some c.args.r.now
    c.count_within.new.r _
    (rw (c.bound_of.ensures, c.node-node.ensures.value) at c.in_err-count.ensures))

pub node_sequence_at-returns-in_err-items : goal.node_sequence_at-returns-in_err-items
node_sequence_at-returns-in_err-items t c =
    let p = err_from_is_err_and c.from_residual-in_err-items.result c.from_residual-in_err-items.ensures.1 in
    let some = rw c.node-node.ensures.value at (sym c.has_item.ensures ∙ c.if-not-has_item.false) in
    rw (p.1, p.2) (sequence-fails c.args.levels c.args.graph.now c.args.depth c.args.place some c.args.r.now _
    c.items_along_at.new.r _ _
    (rw (c.bound_of.ensures, c.node-node.ensures.value) at c.in_ok-count.ensures)
    (rw c.edge.ensures.value at c.in_err-items.ensures))

pub node_sequence_at-returns : goal.node_sequence_at-returns
node_sequence_at-returns t c =
    let some = rw c.node-node.ensures.value at (sym c.has_item.ensures ∙ c.if-not-has_item.false) in
    sequence-read c.args.levels c.args.graph.now c.args.depth c.args.place some c.args.r.now _ _ _ _
    (rw (c.bound_of.ensures, c.node-node.ensures.value) at c.in_ok-count.ensures)
    (rw c.edge.ensures.value at c.in_ok-items.ensures)

pub node_array_at-returns-in_err-items : goal.node_array_at-returns-in_err-items
node_array_at-returns-in_err-items t c =
    let p = err_from_is_err_and c.from_residual.result c.from_residual.ensures.1 in
    let some = rw c.node-node.ensures.value at (sym c.has_item.ensures ∙ c.if-not-has_item.false) in
    rw (p.1, p.2) (array-fails c.args.levels c.args.graph.now c.args.depth c.args.place some c.args.r.now
    c.items_along_at.new.r _
    (rw (c.bound_of.ensures, c.node-node.ensures.value, c.edge-edge.ensures.value) at c.in_err-items.ensures))

pub node_array_at-returns : goal.node_array_at-returns
node_array_at-returns t c =
    let some = rw c.node-node.ensures.value at (sym c.has_item.ensures ∙ c.if-not-has_item.false) in
    array-read c.args.levels c.args.graph.now c.args.depth c.args.place some c.args.r.now _ _
    (rw (c.bound_of.ensures, c.node-node.ensures.value, c.edge-edge.ensures.value) at c.in_ok-items.ensures)

pub node_struct_at-loop-member-init : goal.node_struct_at-loop-member-init
node_struct_at-loop-member-init t c =
    front-none c.new-values.result
    (all_of_them c.args.levels c.args.graph.now c.args.depth c.args.place c.args.r.now) c.new-values.ensures

pub node_struct_at-edge-edge-requires-clause-some : goal.node_struct_at-edge-edge-requires-clause-some
node_struct_at-edge-edge-requires-clause-some t c =
    let all = rw c.node.ensures.value at c.len-count.ensures in
    omega (arith, all, c.loop-member-test.true)

pub node_struct_at-loop-member-preserved : goal.node_struct_at-loop-member-preserved
node_struct_at-loop-member-preserved t c =
    let all = rw c.node.ensures.value at c.len-count.ensures in
    let inside : c.loop-member.member < length (node_at c.args.graph.now c.args.place).edges =
    omega (arith, all, c.loop-member-test.true) in
    rw c.in_ok-push.ensures.ok
    (member-read c.args.levels c.args.graph.now c.args.depth c.args.place c.loop-member.values c.loop-member.member
    c.args.r.now c.loop-member.r _ _ inside (rw c.edge-edge.ensures.value at c.in_ok-value.ensures)
    c.loop-member.invariant)

pub node_struct_at-returns-in_err-value : goal.node_struct_at-returns-in_err-value
node_struct_at-returns-in_err-value t c =
    let p = err_from_is_err_and c.from_residual.result c.from_residual.ensures.1 in
    let all = rw c.node.ensures.value at c.len-count.ensures in
    let inside : c.loop-member.member < length (node_at c.args.graph.now c.args.place).edges =
    omega (arith, all, c.loop-member-test.true) in
    rw (p.1, p.2) (member-fails c.args.levels c.args.graph.now c.args.depth c.args.place c.loop-member.values
    c.loop-member.member c.args.r.now c.loop-member.r c.along_at.new.r _ inside
    (rw c.edge-edge.ensures.value at c.in_err-value.ensures) c.loop-member.invariant)

pub node_struct_at-returns : goal.node_struct_at-returns
node_struct_at-returns t c =
    let all = rw c.node.ensures.value at c.len-count.ensures in
    members-read c.args.levels c.args.graph.now c.args.depth c.args.place c.loop-member.values c.loop-member.member
    c.args.r.now c.loop-member.r (omega (arith, all, c.loop-member-test.false)) c.loop-member.invariant

pub node_union_at-returns-in_err-label : goal.node_union_at-returns-in_err-label
node_union_at-returns-in_err-label t c =
    let p = err_from_is_err_and c.from_residual.result c.from_residual.ensures.1 in
    let one = rw c.node-node.ensures.value at (sym c.is_union.ensures ∙ c.if-not-is_union.false) in
    rw (p.1, p.2) (union-labelless c.args.levels c.args.graph.now c.args.depth c.args.place one c.args.r.now
    c.boxed_node_label_at.new.r _
    (rw c.edge.ensures.value at c.in_err-label.ensures))

pub node_union_at-returns : goal.node_union_at-returns
node_union_at-returns t c =
    let one = rw c.node-node.ensures.value at (sym c.is_union.ensures ∙ c.if-not-is_union.false) in
    rw (union-reads c.args.levels c.args.graph.now c.args.depth c.args.place one c.args.r.now _ _
    (rw c.edge.ensures.value at c.in_ok-label.ensures)) c.node_branch_at.ensures

pub node_union_at-edge-requires-clause-some : goal.node_union_at-edge-requires-clause-some
node_union_at-edge-requires-clause-some t c =
    let one = rw c.node-node.ensures.value at (sym c.is_union.ensures ∙ c.if-not-is_union.false) in
    union-edges (node_at c.args.graph.now c.args.place) one

pub node_union_at-node_branch_at-requires : goal.node_union_at-node_branch_at-requires
node_union_at-node_branch_at-requires t c =
    let one = rw c.node-node.ensures.value at (sym c.is_union.ensures ∙ c.if-not-is_union.false) in
    let there : IsTrue (is_union (node_at c.args.graph.now c.args.place)) = rw one refl in
    search (rules, there)

pub node_branch_at-edge-edge-requires-clause-some : goal.node_branch_at-edge-edge-requires-clause-some
node_branch_at-edge-edge-requires-clause-some t c = rw c.node.ensures.value at c.in-Some.ensures.within

pub node_branch_at-overflow_add-number : goal.node_branch_at-overflow_add-number
node_branch_at-overflow_add-number t c = omega (arith, c.in-Some.ensures.fits)

pub node_branch_at-returns-in-None : goal.node_branch_at-returns-in-None
node_branch_at-returns-in-None t c =
    let none = rw (c.node.ensures.value, c.get.ensures) at (sym c.arm_of.ensures.value ∙ c.in-None.is) in
    rw none refl

use Rattle.std.proofs.Common.{◌<◌, ◌≤◌, ◌-◌, length, min, sym, ◌∙◌, arith}
use Rattle.std.proofs.Common.{map, take, refl, subst, rules}
use Rattle.std.proofs.lemmas.List.{take_all, append-nil}
use Rattle.std.proofs.lemmas.Result.{err_from_is_err_and}
use Rattle.td_cdr.specs.Format.{number, row, Puts}
use Rattle.td_cdr.specs.Sound.{Sound}
use Rattle.td_cdr.specs.declared.value_fault.ValueFault.{ValueFault}
use Rattle.td_cdr.proofs.SequenceWriting.{goes_on}
use Rattle.td_cdr.proofs.Appending.{puts-then}
use Rattle.td_typecode.specs.declared.code.TypeCode.{TypeCode, out-TypeCode}
use Rattle.td_typecode.specs.declared.code.TypeCode.TheVariants as code
use Rattle.td_typecode.specs.declared.code.TypeCode.TheOpen as layer_of
use Rattle.td_typecode.specs.declared.code.Value.{Value}
use Rattle.td_typecode.specs.Outermost.{outer, outer_piece, outer-written}
use Rattle.td_typecode.specs.Labels.{plain_piece}
use Rattle.td_typecode.specs.Layers.{code-any, code-struct, code-union}
use Rattle.td_typecode.specs.Layers.{code-sequence, code-array, code-alias, code-code, code-str}
use Rattle.td_typecode.specs.Layers.{code-object, value-any, value-struct, value-union, value-items}
use Rattle.tc_graph.specs.Nodes.{node_at}
use Rattle.tc_edges.specs.Edges.{edge_of}
use Rattle.td_typecode.specs.NodeValues.{chosen_arm}
use Rattle.td_typecode.specs.Values.{anys, code_values, graph_values, edge_values, code_parts, branch_of, branch_piece}
use Rattle.td_typecode.specs.Values.{node_branch_piece, items_piece}
use Rattle.td_typecode.proofs.AtLayers.{values-writes, graph-writes, any-writes, any-writes-none, each-row}
use Rattle.td_typecode.proofs.AtLayers.{member_pairs}
use Rattle.td_typecode.proofs.AtLayers.{pairs-at, pairs-length}
use Rattle.td_typecode.proofs.NodeKinds.{union-of, sequence-of, array-of, alias-writes, struct-of, field_piece}
use Rattle.td_typecode.proofs.NodeKinds.{member_values}
use Rattle.td_typecode.proofs.NodeKinds.{field-put, fields-put}
use Rattle.td_typecode.proofs.OfNodes.{IsLeaf, along-on, kind-writes, kindless-writes, leaf-writes}
use Rattle.td_typecode.proofs.WrittenParts.{kept-whole, puts-none, puts-whole}
use Rattle.td_typecode.proofs.OfPlainKind.{number-else, number-piece}
use Rattle.td_typecode.proofs.writing_values.+putting.Goals as goal

pub put_any-returns-then-levels-eq0 : goal.put_any-returns-then-levels-eq0
put_any-returns-then-levels-eq0 t c =
    rw (any-writes-none c.args.levels c.args.any.now c.if-levels-eq0.true) (record {
      done =
          rw (append-nil (outer_piece c.args.levels c.args.any.now.code c.args.w.now.order (length c.args.w.now.bytes)))
          c.in_ok-write_outer.ensures.done;
      order = c.in_ok-write_outer.ensures.order;
      kept = tt;
    })

pub put_any-returns : goal.put_any-returns
put_any-returns t c =
    rw (any-writes c.args.levels c.args.any.now c.if-levels-eq0.false)
    (puts-then (outer_piece c.args.levels c.args.any.now.code)
    ((code_values (c.args.levels - 1) c.args.levels c.args.any.now.code).format.writes
    c.args.any.now.value)
    c.args.w.now c.write_outer.new.w c.put_value.new.w c.put_value.result c.in_ok-write_outer.ensures.done
    c.in_ok-write_outer.ensures.order c.put_value.ensures)

pub put_fields-loop-i-preserved : goal.put_fields-loop-i-preserved
put_fields-loop-i-preserved t c =
    let few : c.loop-i.i < min (length c.args.members.now) (length c.args.held.now) =
    omega (arith, c.loop-i-test.true, c.min-count.ensures) in
    let low : c.loop-i.i < length (member_pairs c.args.members.now c.args.held.now) =
    omega (arith, few, pairs-length (λ m. m.code) c.args.members.now c.args.held.now) in
    let in_members : c.loop-i.i < length c.args.members.now = omega (arith, few) in
    let in_values : c.loop-i.i < length c.args.held.now = omega (arith, few) in
    record {
      bytes =
          goes_on (λ (p : TypeCode × Value).
          (code_values c.args.levels c.args.depth p.0).format.writes p.1)
          (member_pairs c.args.members.now c.args.held.now) c.loop-i.i
          (c.index-members-i.result.code, c.index-held-i.result) c.args.w.now.order c.args.w.now.bytes
          c.loop-i.w.bytes c.put_value.new.w.bytes low
          (pairs-at (λ m. m.code) c.args.members.now c.args.held.now c.loop-i.i c.index-members-i.result
          c.index-held-i.result in_members in_values c.index-members-i.is c.index-held-i.is)
          c.loop-i.invariant.bytes
          (rw (c.loop-i.invariant.order, ← c.index-members-i.is) at c.in_ok-put_value.ensures.done);
      order = c.in_ok-put_value.ensures.order ∙ c.loop-i.invariant.order;
    }

pub put_fields-returns : goal.put_fields-returns
put_fields-returns t c =
    let all : length (member_pairs c.args.members.now c.args.held.now) ≤ c.loop-i.i =
    omega (
      arith,
      c.loop-i-test.false,
      c.min-count.ensures,
      pairs-length (λ m. m.code) c.args.members.now c.args.held.now,
    ) in
    record {
      done =
          rw (each-row code_parts (anys c.args.levels) (outer c.args.levels)
          (code_values c.args.levels c.args.depth) c.args.members.now c.args.held.now
          c.args.w.now.order (length c.args.w.now.bytes))
          (rw (take_all c.loop-i.i (member_pairs c.args.members.now c.args.held.now) all) at
          c.loop-i.invariant.bytes);
      order = c.loop-i.invariant.order;
      kept = tt;
    }

pub put_items-loop-value-preserved : goal.put_items-loop-value-preserved
put_items-loop-value-preserved t c = record {
  bytes =
      goes_on (code_values c.args.levels c.args.depth c.args.item.now).format.writes
      c.args.items.now c.loop-value.value-index c.value-item.result c.args.w.now.order c.args.w.now.bytes
      c.loop-value.w.bytes c.put_value.new.w.bytes c.loop-value-test.true c.value-item.is
      c.loop-value.invariant.bytes (rw c.loop-value.invariant.order at c.in_ok-put_value.ensures.done);
  order = c.in_ok-put_value.ensures.order ∙ c.loop-value.invariant.order;
}

pub put_union-returns-in_ok-write_label-in-Union :
    goal.put_union-returns-in_ok-write_label-in-Union
put_union-returns-in_ok-write_label-in-Union t c =
    let first = rw (c.label_of.ensures, c.get.ensures) at c.in_ok-write_label-in-Union.ensures.done in
    let others = rw (c.branch_of.ensures, c.get-in-Union.ensures) at c.put_branch.ensures in
    rw (c.in-Union.is, value-union c.in-Union.label c.in-Union.arm)
    (puts-then (plain_piece c.in-Union.label)
    (branch_piece (anys c.args.levels) (outer c.args.levels)
    (code_values c.args.levels c.args.depth)
    (branch_of c.args.default c.in-Union.label c.args.arms.now) c.in-Union.arm)
    c.args.w.now c.write_label.new.w c.put_branch.new.w c.put_branch.result first
    c.in_ok-write_label-in-Union.ensures.order others)

pub put_value-returns-in-Sequence : goal.put_value-returns-in-Sequence
put_value-returns-in-Sequence t c =
    rw (
      c.in-Sequence.is,
      values-writes (anys c.args.levels) (outer c.args.levels) (graph_values c.args.levels) c.args.depth
          (code.Sequence c.in-Sequence.item c.in-Sequence.bound)
          (layer_of.Sequence c.in-Sequence.item c.in-Sequence.bound) c.args.value.now c.if-depth-eq0.false
          (code-sequence c.in-Sequence.item c.in-Sequence.bound),
      ← c.get.ensures,
    ) c.put_sequence.ensures

pub put_value-returns-in-Array : goal.put_value-returns-in-Array
put_value-returns-in-Array t c =
    rw (
      c.in-Array.is,
      values-writes (anys c.args.levels) (outer c.args.levels) (graph_values c.args.levels) c.args.depth
          (code.Array c.in-Array.item c.in-Array.len) (layer_of.Array c.in-Array.item c.in-Array.len) c.args.value.now
          c.if-depth-eq0.false (code-array c.in-Array.item c.in-Array.len),
      ← c.get-in-Array.ensures,
    ) c.put_array.ensures

pub put_value-returns-in-Struct : goal.put_value-returns-in-Struct
put_value-returns-in-Struct t c =
    rw (
      c.in-Struct.is,
      values-writes (anys c.args.levels) (outer c.args.levels) (graph_values c.args.levels) c.args.depth
          (code.Struct c.in-Struct.id c.in-Struct.name c.in-Struct.members)
          (layer_of.TypeCode::Struct c.in-Struct.id c.in-Struct.name c.in-Struct.members) c.args.value.now
          c.if-depth-eq0.false (code-struct c.in-Struct.id c.in-Struct.name c.in-Struct.members),
      ← c.as_slice.ensures,
    ) c.put_struct.ensures

pub put_value-returns-in-Union : goal.put_value-returns-in-Union
put_value-returns-in-Union t c =
    rw (
      c.in-Union.is,
      values-writes (anys c.args.levels) (outer c.args.levels) (graph_values c.args.levels) c.args.depth
          (code.Union c.in-Union.id c.in-Union.name c.in-Union.switch c.in-Union.default c.in-Union.arms)
          (layer_of.TypeCode::Union c.in-Union.id c.in-Union.name c.in-Union.switch c.in-Union.default c.in-Union.arms)
          c.args.value.now c.if-depth-eq0.false
          (code-union c.in-Union.id c.in-Union.name c.in-Union.switch c.in-Union.default c.in-Union.arms),
      ← c.as_slice-in-Union.ensures,
      ← c.index_of.ensures,
    ) c.put_union.ensures

pub put_value-returns-in-Alias : goal.put_value-returns-in-Alias
put_value-returns-in-Alias t c =
    rw (
      c.in-Alias.is,
      values-writes (anys c.args.levels) (outer c.args.levels) (graph_values c.args.levels) c.args.depth
          (code.Alias c.in-Alias.id c.in-Alias.name c.in-Alias.item)
          (layer_of.Alias c.in-Alias.id c.in-Alias.name c.in-Alias.item) c.args.value.now c.if-depth-eq0.false
          (code-alias c.in-Alias.id c.in-Alias.name c.in-Alias.item),
      ← c.get-in-Alias.ensures,
    )
    c.put_value.ensures

pub put_value-returns-in-AnyCode : goal.put_value-returns-in-AnyCode
put_value-returns-in-AnyCode t c =
    rw (
      c.in-AnyCode.is,
      values-writes (anys c.args.levels) (outer c.args.levels) (graph_values c.args.levels) c.args.depth code.AnyCode
          layer_of.AnyCode c.args.value.now c.if-depth-eq0.false code-any,
    )
    c.put_any_in.ensures

pub put_count_and_items-returns : goal.put_count_and_items-returns
put_count_and_items-returns t c =
    let inner = (code_values c.args.levels c.args.depth) in
    let items = c.args.items.now in
    puts-then ((number 4).writes (length items)) (items_piece (anys c.args.levels) (outer c.args.levels) inner
    c.args.item.now items) c.args.w.now
    c.write_count.new.w c.put_items.new.w c.put_items.result c.in_ok-write_count.ensures.done
    c.in_ok-write_count.ensures.order c.put_items.ensures

pub put_items-returns-in_err-put_value : goal.put_items-returns-in_err-put_value
put_items-returns-in_err-put_value t c =
    let p = err_from_is_err_and c.from_residual.result c.from_residual.ensures.1 in
    let w = ((code_values c.args.levels c.args.depth) c.args.item.now).format.writes in
    let whole =
    puts-then (row (map w (take c.loop-value.value-index c.args.items.now))) (w c.value-item.result) c.args.w.now
    c.loop-value.w c.put_value.new.w _ c.loop-value.invariant.bytes c.loop-value.invariant.order
    c.in_err-put_value.ensures in
    rw p.1 (record { done = tt; order = whole.order; kept = whole.kept })

pub put_fields-returns-in_err-put_value : goal.put_fields-returns-in_err-put_value
put_fields-returns-in_err-put_value t c =
    let p = err_from_is_err_and c.from_residual.result c.from_residual.ensures.1 in
    let inner = (code_values c.args.levels c.args.depth) in
    let pairs = member_pairs c.args.members.now c.args.held.now in
    let e = rw (← c.index-members-i.is) at c.in_err-put_value.ensures in
    let whole =
    puts-then (row (map (λ (p : TypeCode × Value). (inner p.0).format.writes p.1) (take c.loop-i.i pairs)))
    ((inner c.index-members-i.result.code).format.writes c.index-held-i.result) c.args.w.now c.loop-i.w
    c.put_value.new.w _ c.loop-i.invariant.bytes c.loop-i.invariant.order e in
    rw p.1 (record { done = tt; order = whole.order; kept = whole.kept })

pub put_value-returns-in-Code : goal.put_value-returns-in-Code
put_value-returns-in-Code t c =
    rw (
      c.in-Code.is,
      values-writes (anys c.args.levels) (outer c.args.levels) (graph_values c.args.levels) c.args.depth code.Code layer_of.TypeCode::Code
          c.args.value.now c.if-depth-eq0.false code-code,
      outer-written c.args.levels,
    )
    c.put_code_in.ensures

pub put_value-returns-in-Str : goal.put_value-returns-in-Str
put_value-returns-in-Str t c =
    rw (
      c.in-Str.is,
      values-writes (anys c.args.levels) (outer c.args.levels) (graph_values c.args.levels) c.args.depth (code.Str c.in-Str.bound)
          (layer_of.TypeCode::Str c.in-Str.bound) c.args.value.now c.if-depth-eq0.false (code-str c.in-Str.bound),
    )
    c.put_text_in.ensures

pub put_value-returns-in-ObjRef : goal.put_value-returns-in-ObjRef
put_value-returns-in-ObjRef t c =
    rw (
      c.in-ObjRef.is,
      values-writes (anys c.args.levels) (outer c.args.levels) (graph_values c.args.levels) c.args.depth
          (code.ObjRef c.in-ObjRef.id c.in-ObjRef.name) (layer_of.TypeCode::ObjRef c.in-ObjRef.id c.in-ObjRef.name)
          c.args.value.now c.if-depth-eq0.false (code-object c.in-ObjRef.id c.in-ObjRef.name),
    )
    c.put_reference_in.ensures

pub put_items-returns : goal.put_items-returns
put_items-returns t c = record {
  done =
      rw (take_all c.loop-value.value-index c.args.items.now c.loop-value-test.false) at
      c.loop-value.invariant.bytes;
  order = c.loop-value.invariant.order;
  kept = tt;
}

pub put_any-returns-in_err-write_outer : goal.put_any-returns-in_err-write_outer
put_any-returns-in_err-write_outer t c =
    let p = err_from_is_err_and c.from_residual.result c.from_residual.ensures.1 in
    let e = c.in_err-write_outer.ensures in
    rw p.1 (record { done = tt; order = e.order; kept = kept-whole c.args.w.now c.write_outer.new.w e.refused })

pub put_count_and_items-returns-in_err-write_count : goal.put_count_and_items-returns-in_err-write_count
put_count_and_items-returns-in_err-write_count t c =
    let p = err_from_is_err_and c.from_residual.result c.from_residual.ensures.1 in
    let e = c.in_err-write_count.ensures in
    rw p.1 (record { done = tt; order = e.order; kept = kept-whole c.args.w.now c.write_count.new.w e.refused })

pub put_union-returns-in_err-write_label-in-Union : goal.put_union-returns-in_err-write_label-in-Union
put_union-returns-in_err-write_label-in-Union t c =
    let p = err_from_is_err_and c.from_residual.result c.from_residual.ensures.1 in
    let e = c.in_err-write_label-in-Union.ensures in
    rw p.1 (record { done = tt; order = e.order; kept = kept-whole c.args.w.now c.write_label.new.w e.refused })

pub put_struct-returns-in-Struct : goal.put_struct-returns-in-Struct
put_struct-returns-in-Struct t c =
    rw (c.in-Struct.is, value-struct c.in-Struct.held) (rw c.as_slice.ensures at c.put_fields.ensures)

pub put_sequence-returns-in-Items : goal.put_sequence-returns-in-Items
put_sequence-returns-in-Items t c =
    rw (c.in-Items.is, value-items c.in-Items.items) (rw c.as_slice.ensures at c.put_count_and_items.ensures)

pub put_array-returns-in-Items : goal.put_array-returns-in-Items
put_array-returns-in-Items t c =
    rw (c.in-Items.is, value-items c.in-Items.items) (rw c.as_slice.ensures at c.put_items.ensures)

pub put_any_in-returns-in-AnyValue : goal.put_any_in-returns-in-AnyValue
put_any_in-returns-in-AnyValue t c =
    rw (c.in-AnyValue.is, value-any c.in-AnyValue.any) (rw c.get.ensures at c.put_any.ensures)

pub put_value-returns-in_default : goal.put_value-returns-in_default
put_value-returns-in_default t c =
    let n = c.in_default in
    let is = number-else c.args.code.now n.not-Null n.not-Void n.not-AnyCode n.not-Code n.not-Str n.not-ObjRef
    n.not-Struct n.not-Union n.not-Sequence n.not-Array n.not-Alias n.not-Except n.not-Linked in
    let l = out-TypeCode c.args.code.now in
    let one = (code_values c.args.levels (c.args.depth - 1)) in
    rw (
      values-writes (anys c.args.levels) (outer c.args.levels) (graph_values c.args.levels) c.args.depth c.args.code.now l c.args.value.now
          c.if-depth-eq0.false refl,
      number-piece (anys c.args.levels) (outer c.args.levels) one (graph_values c.args.levels) (c.args.depth - 1) l c.args.value.now is,
    )
    (puts-whole (plain_piece c.args.value.now) c.args.w.now c.write_label.new.w c.write_label.result
    (rw c.label_of.ensures at c.write_label.ensures))

pub put_value-returns-in-Linked : goal.put_value-returns-in-Linked
put_value-returns-in-Linked t c =
    rw (graph-writes (anys c.args.levels) (outer c.args.levels) (graph_values c.args.levels) c.args.depth
    c.args.code.now c.in-Linked.graph c.args.value.now c.if-depth-eq0.false c.in-Linked.is)
    c.put_graph.ensures

-- ---- under a node

pub put_graph-returns-in_err-graph : goal.put_graph-returns-in_err-graph
put_graph-returns-in_err-graph t c =
    let p = err_from_is_err_and c.from_residual.result c.from_residual.ensures.1 in
    rw p.1 (record { done = tt; order = refl; kept = kept-whole c.args.w.now c.args.w.now refl })

pub put_graph-returns : goal.put_graph-returns
put_graph-returns t c = rw c.in_ok-graph.ensures.value at c.put_node.ensures

pub put_along-returns : goal.put_along-returns
put_along-returns t c =
    let on =
    along-on c.args.levels c.args.graph.now c.args.depth c.args.edge c.if-levels-eq0.false c.if-not-edge.false in
    subst
    (λ (g : Sound ValueFault Value).
    Puts (g.format.writes c.args.value.now) c.args.w.now c.put_node-2.new.w c.put_node-2.result)
    (sym on) c.put_node-2.ensures

pub put_node-returns-in-None : goal.put_node-returns-in-None
put_node-returns-in-None t c =
    let none = rw c.node.ensures.value at (sym c.kind_of_number.ensures ∙ c.in-None.is) in
    rw (kindless-writes c.args.levels c.args.graph.now c.args.depth c.args.place c.args.value.now c.if-depth-eq0.false none)
    (puts-none c.args.w.now)

pub put_node-returns-in-Some : goal.put_node-returns-in-Some
put_node-returns-in-Some t c =
    let is = rw c.node.ensures.value at (sym c.kind_of_number.ensures ∙ c.in-Some.is) in
    rw (kind-writes c.args.levels c.args.graph.now c.args.depth c.args.place c.in-Some.kind c.args.value.now
    c.if-depth-eq0.false is) c.put_node_kind.ensures

pub put_node_kind-returns-in-Code : goal.put_node_kind-returns-in-Code
put_node_kind-returns-in-Code t c = rw (c.in-Code.is, outer-written c.args.levels) c.put_code_in.ensures

pub put_node_kind-returns-in_default : goal.put_node_kind-returns-in_default
put_node_kind-returns-in_default t c =
    let n = c.in_default in
    let leaf : IsLeaf c.args.kind = record {
      no_any = n.not-AnyCode;
      no_code = n.not-Code;
      no_struct = n.not-Struct;
      no_union = n.not-Union;
      no_sequence = n.not-Sequence;
      no_array = n.not-Array;
      no_alias = n.not-Alias;
    } in
    rw (leaf-writes c.args.levels c.args.graph.now c.args.depth c.args.place c.args.kind leaf c.args.value.now)
    (rw c.node.ensures.value at c.put_leaf.ensures)

pub put_items_along-loop-value-preserved : goal.put_items_along-loop-value-preserved
put_items_along-loop-value-preserved t c = record {
  bytes =
      goes_on (edge_values c.args.levels c.args.graph.now c.args.depth c.args.edge).format.writes
      c.args.items.now c.loop-value.value-index c.value-item.result c.args.w.now.order c.args.w.now.bytes
      c.loop-value.w.bytes c.put_along.new.w.bytes c.loop-value-test.true c.value-item.is
      c.loop-value.invariant.bytes (rw c.loop-value.invariant.order at c.in_ok-put_along.ensures.done);
  order = c.in_ok-put_along.ensures.order ∙ c.loop-value.invariant.order;
}

pub put_items_along-returns-in_err-put_along : goal.put_items_along-returns-in_err-put_along
put_items_along-returns-in_err-put_along t c =
    let p = err_from_is_err_and c.from_residual.result c.from_residual.ensures.1 in
    let w = (edge_values c.args.levels c.args.graph.now c.args.depth c.args.edge).format.writes in
    let whole =
    puts-then (row (map w (take c.loop-value.value-index c.args.items.now))) (w c.value-item.result) c.args.w.now
    c.loop-value.w c.put_along.new.w _ c.loop-value.invariant.bytes c.loop-value.invariant.order
    c.in_err-put_along.ensures in
    rw p.1 (record { done = tt; order = whole.order; kept = whole.kept })

pub put_items_along-returns : goal.put_items_along-returns
put_items_along-returns t c = record {
  done =
      rw (take_all c.loop-value.value-index c.args.items.now c.loop-value-test.false) at
      c.loop-value.invariant.bytes;
  order = c.loop-value.invariant.order;
  kept = tt;
}

pub put_node_struct-returns-in-Struct : goal.put_node_struct-returns-in-Struct
put_node_struct-returns-in-Struct t c =
    rw (c.in-Struct.is, struct-of c.args.levels c.args.graph.now c.args.depth c.args.place c.in-Struct.held)
    (rw c.as_slice.ensures at c.put_node_fields.ensures)

pub put_node_fields-edge-edge-requires-clause-some : goal.put_node_fields-edge-edge-requires-clause-some
put_node_fields-edge-edge-requires-clause-some t c =
    let all = rw c.node.ensures.value at c.len.ensures in
    omega (arith, all, c.loop-i-test.true, c.min-count.ensures)

pub put_node_fields-loop-i-preserved : goal.put_node_fields-loop-i-preserved
put_node_fields-loop-i-preserved t c =
    let all = rw c.node.ensures.value at c.len.ensures in
    let few : c.loop-i.i < min (length (node_at c.args.graph.now c.args.place).edges) (length c.args.held.now) =
    omega (arith, all, c.loop-i-test.true, c.min-count.ensures) in
    record {
      bytes =
          field-put c.args.levels c.args.graph.now c.args.depth c.args.place c.args.held.now c.loop-i.i
          c.index-held-i.result c.args.w.now.order c.args.w.now.bytes c.loop-i.w.bytes c.put_along.new.w.bytes
          (omega (arith, few)) (omega (arith, few)) c.index-held-i.is c.loop-i.invariant.bytes
          (rw (c.loop-i.invariant.order, c.edge-edge.ensures.value) at c.in_ok-put_along.ensures.done);
      order = c.in_ok-put_along.ensures.order ∙ c.loop-i.invariant.order;
    }

pub put_node_fields-returns-in_err-put_along : goal.put_node_fields-returns-in_err-put_along
put_node_fields-returns-in_err-put_along t c =
    let p = err_from_is_err_and c.from_residual.result c.from_residual.ensures.1 in
    let e = rw c.edge-edge.ensures.value at c.in_err-put_along.ensures in
    let one = field_piece c.args.levels c.args.graph.now c.args.depth c.args.place in
    let all = member_values c.args.levels c.args.graph.now c.args.depth c.args.place c.args.held.now in
    let whole =
    puts-then (row (map one (take c.loop-i.i all)))
    (one (edge_of c.args.graph.now c.args.place c.loop-i.i, c.index-held-i.result)) c.args.w.now c.loop-i.w
    c.put_along.new.w _ c.loop-i.invariant.bytes c.loop-i.invariant.order e in
    rw p.1 (record { done = tt; order = whole.order; kept = whole.kept })

pub put_node_fields-returns : goal.put_node_fields-returns
put_node_fields-returns t c =
    let all = rw c.node.ensures.value at c.len.ensures in
    record {
      done =
          fields-put c.args.levels c.args.graph.now c.args.depth c.args.place c.args.held.now c.loop-i.i
          c.args.w.now.order c.args.w.now.bytes c.loop-i.w.bytes
          (omega (arith, all, c.loop-i-test.false, c.min-count.ensures)) c.loop-i.invariant.bytes;
      order = c.loop-i.invariant.order;
      kept = tt;
    }

pub put_node_union-returns-in_err-write_label-in-Union : goal.put_node_union-returns-in_err-write_label-in-Union
put_node_union-returns-in_err-write_label-in-Union t c =
    let p = err_from_is_err_and c.from_residual.result c.from_residual.ensures.1 in
    let e = c.in_err-write_label-in-Union.ensures in
    rw p.1 (record { done = tt; order = e.order; kept = kept-whole c.args.w.now c.write_label.new.w e.refused })

pub put_node_union-returns-in_ok-write_label-in-Union :
    goal.put_node_union-returns-in_ok-write_label-in-Union
put_node_union-returns-in_ok-write_label-in-Union t c =
    let one = rw c.node-node.ensures.value at (sym c.is_union.ensures ∙ c.if-not-is_union.false) in
    let first = rw (c.label_of.ensures, c.get.ensures) at c.in_ok-write_label-in-Union.ensures.done in
    let others = rw (c.arm_of-chosen.ensures.value, c.node-node.ensures.value, c.get-in-Union.ensures) at
    c.put_node_branch.ensures in
    rw (
      c.in-Union.is,
      union-of c.args.levels c.args.graph.now c.args.depth c.args.place one c.in-Union.label c.in-Union.arm,
    )
    (puts-then (plain_piece c.in-Union.label)
    (node_branch_piece c.args.levels c.args.graph.now c.args.depth c.args.place
    (chosen_arm (node_at c.args.graph.now c.args.place) c.in-Union.label) c.in-Union.arm)
    c.args.w.now c.write_label.new.w c.put_node_branch.new.w c.put_node_branch.result first
    c.in_ok-write_label-in-Union.ensures.order others)

pub put_node_sequence-returns-in_err-write_count-in-Items : goal.put_node_sequence-returns-in_err-write_count-in-Items
put_node_sequence-returns-in_err-write_count-in-Items t c =
    let p = err_from_is_err_and c.from_residual.result c.from_residual.ensures.1 in
    let e = c.in_err-write_count-in-Items.ensures in
    rw p.1 (record { done = tt; order = e.order; kept = kept-whole c.args.w.now c.write_count.new.w e.refused })

pub put_node_sequence-returns-in_ok-write_count-in-Items :
    goal.put_node_sequence-returns-in_ok-write_count-in-Items
put_node_sequence-returns-in_ok-write_count-in-Items t c =
    let some = rw c.node.ensures.value at (sym c.has_item.ensures ∙ c.if-not-has_item.false) in
    let one = (edge_values c.args.levels c.args.graph.now c.args.depth (edge_of c.args.graph.now c.args.place 0)) in
    rw (c.in-Items.is, sequence-of c.args.levels c.args.graph.now c.args.depth c.args.place some c.in-Items.items)
    (puts-then ((number 4).writes (length c.in-Items.items)) (row (map one.format.writes c.in-Items.items))
    c.args.w.now c.write_count.new.w c.put_items_along.new.w c.put_items_along.result
    (rw c.len.ensures at c.in_ok-write_count-in-Items.ensures.done) c.in_ok-write_count-in-Items.ensures.order
    (rw (c.as_slice.ensures, c.edge-edge.ensures.value) at c.put_items_along.ensures))

pub put_node_array-returns-in-Items : goal.put_node_array-returns-in-Items
put_node_array-returns-in-Items t c =
    let some = rw c.node.ensures.value at (sym c.has_item.ensures ∙ c.if-not-has_item.false) in
    rw (c.in-Items.is, array-of c.args.levels c.args.graph.now c.args.depth c.args.place some c.in-Items.items)
    (rw (c.as_slice.ensures, c.edge-edge.ensures.value) at c.put_items_along.ensures)

pub put_node_alias-returns : goal.put_node_alias-returns
put_node_alias-returns t c =
    let some = rw c.node.ensures.value at (sym c.has_item.ensures ∙ c.if-not-has_item.false) in
    rw (alias-writes c.args.levels c.args.graph.now c.args.depth c.args.place some c.args.value.now)
    (rw c.edge.ensures.value at c.put_along.ensures)

pub put_node_union-put_node_branch-requires : goal.put_node_union-put_node_branch-requires
put_node_union-put_node_branch-requires t c =
    let within = rw c.node-node.ensures.value at c.arm_of-chosen.ensures.within in
    search (rules, within, c.arm_of-chosen.ensures.fits)

pub put_node_branch-overflow_add-number : goal.put_node_branch-overflow_add-number
put_node_branch-overflow_add-number t c =
    let bound = rw c.in-Some.is at c.requires.fits in
    omega (arith, bound)

pub put_node_branch-edge-edge-requires-clause-some : goal.put_node_branch-edge-edge-requires-clause-some
put_node_branch-edge-edge-requires-clause-some t c = rw c.in-Some.is at c.requires.within

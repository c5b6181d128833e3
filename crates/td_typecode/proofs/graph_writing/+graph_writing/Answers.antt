use Rattle.std.proofs.Common.{◌≡◌, ℕ, ◌+◌, ◌-◌, ◌<◌, ◌≤◌, ◌∙◌, [], ◌∷◌, ◌++◌, length, true, false, refl, sym, ap, arith}
use Rattle.std.specs.Prelude.{nat_eq}
use Rattle.std.proofs.Math.Facts.{to_z-of_z}
use Rattle.std.proofs.lemmas.Bool.{eq-eqb, ne_eqb}
use Rattle.std.proofs.lemmas.Result.{err_from_is_err_and}
use Rattle.td_typecode.proofs.WrittenParts.{kept-whole}
use Rattle.td_cdr.specs.Format.{number, text}
use Rattle.tc_graph.specs.Nodes.{edge}
use Rattle.td_typecode.specs.declared.kinds.CodeKind.TheVariants as kind
use Rattle.td_typecode.specs.Labels.{plain_piece}
use Rattle.td_typecode.specs.ReadNodes.{value_of_number}
use Rattle.td_typecode.specs.WritingCodes.{header_piece, head_piece}
use Rattle.td_typecode.specs.GraphKnown.{known_of, kind_of_number, own_name, behind_first, members_of, natural}
use Rattle.td_typecode.specs.GraphKnown.{number_or_zero, switch_in}
use Rattle.td_typecode.specs.NodeWriting.{plainly, edge_placed, kind_placed, layer_placed, inside_placed, node_layer}
use Rattle.td_typecode.specs.NodeWriting.{row_of_members, row_of_arms, members_placed, member_placed, front_placed}
use Rattle.td_typecode.specs.NodeWriting.{arms_placed}
use Rattle.td_typecode.specs.NodeWriting.{arm_placed, arms_in, name_at, label_number_at, enum_piece}
use Rattle.td_typecode.proofs.PlacedWriting.{placed-plainly, placed-none, placed-fails, placed-then, plainly-then}
use Rattle.td_typecode.proofs.PlacedWriting.{placed-within, edge-other, edge-begins, edge-gone, inside-by, layer-by}
use Rattle.td_typecode.proofs.PlacedWriting.{inside-none, layer-enclosed, leaves-all, leaves-on, leaves-none}
use Rattle.td_typecode.proofs.PlacedWriting.{leaves-fails}
use Rattle.td_typecode.proofs.PlacedWriting.{still-kept, members_from, members-at, members-done, arms_from, arm_at}
use Rattle.td_typecode.proofs.PlacedWriting.{arms-at, arms-done, arms-total}
use Rattle.td_typecode.proofs.graph_writing.+graph_writing.Goals as goal

pub write_edge-returns-then-number-len : goal.write_edge-returns-then-number-len
write_edge-returns-then-number-len t c =
    let j = c.args.number in
    let ps = c.args.places.now in
    let other : nat_eq j (length ps) ≡ false =
    ne_eqb j (length ps) (λ e. c.if-number-len.true (e ∙ sym c.len.ensures)) in
    edge-other c.args.graph.now j c.args.at.base ps ps c.args.w.now c.write_indirection.new.w
    c.write_indirection.result c.args.at.levels c.if-at-eq0.false other c.write_indirection.ensures

pub write_edge-returns-in-Some : goal.write_edge-returns-in-Some
write_edge-returns-in-Some t c =
    let j = c.args.number in
    let ps = c.args.places.now in
    let next : nat_eq j (length ps) ≡ true = eq-eqb j (length ps) (c.if-number-len.false ∙ c.len.ensures) in
    edge-begins c.args.graph.now j c.args.at.base ps c.write_node.new.places c.args.w.now c.write_node.new.w
    c.write_node.result c.in-Some.node.now c.args.at.levels c.if-at-eq0.false next
    (sym (rw c.in-Some.is at c.node.ensures.value)) c.write_node.ensures

pub write_edge-returns-in-None : goal.write_edge-returns-in-None
write_edge-returns-in-None t c =
    let ps = c.args.places.now in
    edge-gone c.args.graph.now c.args.number c.args.at.base ps ps c.args.w.now c.write_indirection-in-None.new.w
    c.write_indirection-in-None.result c.args.at.levels c.if-at-eq0.false
    (sym (rw c.in-None.is at c.node.ensures.value)) c.write_indirection-in-None.ensures

pub write_member-returns : goal.write_member-returns
write_member-returns t c =
    let inner = edge_placed c.args.at.levels (known_of c.args.graph.now) in
    let name = c.in_ok-string.ensures.done in
    plainly-then (text.writes c.args.name.now) (inner c.args.number) c.args.at.base c.args.places.now
    c.write_edge.new.places c.args.w.now c.string.new.self c.write_edge.new.w c.write_edge.result name.0 name.1
    c.write_edge.ensures

pub write_front-returns : goal.write_front-returns
write_front-returns t c =
    let p = c.args.node.now in
    let inner = edge_placed c.args.at.levels (known_of c.args.graph.now) in
    plainly-then (header_piece p.id (own_name p.names)) (inner (edge p 0)) c.args.at.base c.args.places.now
    c.write_edge.new.places c.args.w.now c.write_header.new.w c.write_edge.new.w c.write_edge.result
    c.in_ok-write_header.ensures.done c.in_ok-write_header.ensures.order
    (rw c.edge_of.ensures at c.write_edge.ensures)

pub write_items-returns : goal.write_items-returns
write_items-returns t c =
    let p = c.args.node.now in
    let inner = edge_placed c.args.at.levels (known_of c.args.graph.now) in
    let first = rw c.edge_of.ensures at c.in_ok-write_edge.ensures in
    let size = (number 4).writes (natural (number_or_zero p.numbers)) in
    placed-then (inner (edge p 0)) (plainly size) c.args.at.base c.args.places.now c.write_edge.new.places
    c.write_edge.new.places c.args.w.now c.write_edge.new.w c.write_size.new.w c.write_size.result first.done.0
    first.done.1 first.order
    (placed-plainly size c.args.at.base c.write_edge.new.places c.write_edge.new.w c.write_size.new.w
    c.write_size.result c.write_size.ensures)

pub write_fields-returns : goal.write_fields-returns
write_fields-returns t c =
    let p = c.args.node.now in
    let inner = edge_placed c.args.at.levels (known_of c.args.graph.now) in
    plainly-then (header_piece p.id (own_name p.names))
    (members_placed inner (members_of (behind_first p.names) p.edges)) c.args.at.base c.args.places.now
    c.write_members.new.places c.args.w.now c.write_header.new.w c.write_members.new.w c.write_members.result
    c.in_ok-write_header.ensures.done c.in_ok-write_header.ensures.order c.write_members.ensures

pub write_members-returns : goal.write_members-returns
write_members-returns t c =
    let p = c.args.node.now in
    let inner = edge_placed c.args.at.levels (known_of c.args.graph.now) in
    let members = members_of (behind_first p.names) p.edges in
    let count = rw c.member_count.ensures at c.in_ok-put_count.ensures in
    plainly-then ((number 4).writes (length members)) (row_of_members inner members) c.args.at.base c.args.places.now
    c.write_each_member.new.places c.args.w.now c.put_count.new.w c.write_each_member.new.w
    c.write_each_member.result count.done count.order c.write_each_member.ensures

pub write_union-returns : goal.write_union-returns
write_union-returns t c =
    let p = c.args.node.now in
    let inner = edge_placed c.args.at.levels (known_of c.args.graph.now) in
    let first = c.in_ok-write_front.ensures in
    placed-then (front_placed inner p.id (own_name p.names) (edge p 0))
    (arms_placed inner (number_or_zero p.numbers) (arms_in (switch_in c.args.graph.now p) p)) c.args.at.base
    c.args.places.now c.write_front.new.places c.write_arms.new.places c.args.w.now c.write_front.new.w
    c.write_arms.new.w c.write_arms.result first.done.0 first.done.1 first.order c.write_arms.ensures

pub write_inside-returns-in-ObjRef : goal.write_inside-returns-in-ObjRef
write_inside-returns-in-ObjRef t c =
    let inner = edge_placed c.args.at.levels (known_of c.args.graph.now) in
    inside-by inner c.args.graph.now c.args.node.now kind.ObjRef (sym c.kind_by.ensures ∙ c.in-ObjRef.is) c.args.at.base
    c.args.places.now c.args.places.now c.args.w.now c.write_header.new.w c.write_header.result
    (placed-plainly (header_piece c.args.node.now.id (own_name c.args.node.now.names)) c.args.at.base c.args.places.now
    c.args.w.now c.write_header.new.w
    c.write_header.result c.write_header.ensures)

pub write_inside-returns-in-Enum : goal.write_inside-returns-in-Enum
write_inside-returns-in-Enum t c =
    let inner = edge_placed c.args.at.levels (known_of c.args.graph.now) in
    inside-by inner c.args.graph.now c.args.node.now kind.Enum (sym c.kind_by.ensures ∙ c.in-Enum.is) c.args.at.base
    c.args.places.now c.args.places.now c.args.w.now c.write_enum.new.w c.write_enum.result
    (placed-plainly (enum_piece c.args.node.now.id (own_name c.args.node.now.names) (behind_first
    c.args.node.now.names)) c.args.at.base c.args.places.now c.args.w.now c.write_enum.new.w
    c.write_enum.result c.write_enum.ensures)

pub write_inside-returns-in-Struct : goal.write_inside-returns-in-Struct
write_inside-returns-in-Struct t c =
    let inner = edge_placed c.args.at.levels (known_of c.args.graph.now) in
    inside-by inner c.args.graph.now c.args.node.now kind.Struct (sym c.kind_by.ensures ∙ c.in-Struct.is) c.args.at.base
    c.args.places.now c.write_fields.new.places c.args.w.now c.write_fields.new.w c.write_fields.result
    c.write_fields.ensures

pub write_inside-returns-in-Except : goal.write_inside-returns-in-Except
write_inside-returns-in-Except t c =
    let inner = edge_placed c.args.at.levels (known_of c.args.graph.now) in
    inside-by inner c.args.graph.now c.args.node.now kind.Except (sym c.kind_by.ensures ∙ c.in-Except.is) c.args.at.base
    c.args.places.now c.write_fields-in-Except.new.places c.args.w.now c.write_fields-in-Except.new.w
    c.write_fields-in-Except.result c.write_fields-in-Except.ensures

pub write_inside-returns-in-Union : goal.write_inside-returns-in-Union
write_inside-returns-in-Union t c =
    let inner = edge_placed c.args.at.levels (known_of c.args.graph.now) in
    inside-by inner c.args.graph.now c.args.node.now kind.Union (sym c.kind_by.ensures ∙ c.in-Union.is) c.args.at.base
    c.args.places.now c.write_union.new.places c.args.w.now c.write_union.new.w c.write_union.result
    c.write_union.ensures

pub write_inside-returns-in-Sequence : goal.write_inside-returns-in-Sequence
write_inside-returns-in-Sequence t c =
    let inner = edge_placed c.args.at.levels (known_of c.args.graph.now) in
    inside-by inner c.args.graph.now c.args.node.now kind.Sequence (sym c.kind_by.ensures ∙ c.in-Sequence.is)
    c.args.at.base
    c.args.places.now c.write_items.new.places c.args.w.now c.write_items.new.w c.write_items.result
    c.write_items.ensures

pub write_inside-returns-in-Array : goal.write_inside-returns-in-Array
write_inside-returns-in-Array t c =
    let inner = edge_placed c.args.at.levels (known_of c.args.graph.now) in
    inside-by inner c.args.graph.now c.args.node.now kind.Array (sym c.kind_by.ensures ∙ c.in-Array.is) c.args.at.base
    c.args.places.now c.write_items-in-Array.new.places c.args.w.now c.write_items-in-Array.new.w
    c.write_items-in-Array.result c.write_items-in-Array.ensures

pub write_inside-returns-in-Alias : goal.write_inside-returns-in-Alias
write_inside-returns-in-Alias t c =
    let inner = edge_placed c.args.at.levels (known_of c.args.graph.now) in
    inside-by inner c.args.graph.now c.args.node.now kind.Alias (sym c.kind_by.ensures ∙ c.in-Alias.is) c.args.at.base
    c.args.places.now c.write_front.new.places c.args.w.now c.write_front.new.w c.write_front.result
    c.write_front.ensures

pub write_inside-returns-in_default : goal.write_inside-returns-in_default
write_inside-returns-in_default t c =
    let inner = edge_placed c.args.at.levels (known_of c.args.graph.now) in
    let g = c.args.graph.now in
    let p = c.args.node.now in
    let n = c.in_default in
    let nothing =
    inside-none inner (switch_in g p) c.kind_by.result p n.not-ObjRef n.not-Struct n.not-Except n.not-Union
    n.not-Enum n.not-Sequence n.not-Array n.not-Alias in
    inside-by inner g p c.kind_by.result (sym c.kind_by.ensures) c.args.at.base c.args.places.now c.args.places.now
    c.args.w.now c.args.w.now _
    (rw nothing (placed-none c.args.at.base c.args.places.now c.args.w.now))

pub write_parameters-returns-in-Null : goal.write_parameters-returns-in-Null
write_parameters-returns-in-Null t c =
    layer-by (edge_placed c.args.at.levels (known_of c.args.graph.now)) c.args.graph.now c.args.node.now kind.Null
    (sym c.kind_by.ensures ∙ c.in-Null.is) c.args.at.base c.args.places.now c.args.places.now c.args.w.now
    c.args.w.now _ (placed-none c.args.at.base c.args.places.now c.args.w.now)

pub write_parameters-returns-in-Void : goal.write_parameters-returns-in-Void
write_parameters-returns-in-Void t c =
    layer-by (edge_placed c.args.at.levels (known_of c.args.graph.now)) c.args.graph.now c.args.node.now kind.Void
    (sym c.kind_by.ensures ∙ c.in-Void.is) c.args.at.base c.args.places.now c.args.places.now c.args.w.now
    c.args.w.now _ (placed-none c.args.at.base c.args.places.now c.args.w.now)

pub write_parameters-returns-in-Short : goal.write_parameters-returns-in-Short
write_parameters-returns-in-Short t c =
    layer-by (edge_placed c.args.at.levels (known_of c.args.graph.now)) c.args.graph.now c.args.node.now kind.Short
    (sym c.kind_by.ensures ∙ c.in-Short.is) c.args.at.base c.args.places.now c.args.places.now c.args.w.now
    c.args.w.now _ (placed-none c.args.at.base c.args.places.now c.args.w.now)

pub write_parameters-returns-in-Long : goal.write_parameters-returns-in-Long
write_parameters-returns-in-Long t c =
    layer-by (edge_placed c.args.at.levels (known_of c.args.graph.now)) c.args.graph.now c.args.node.now kind.Long
    (sym c.kind_by.ensures ∙ c.in-Long.is) c.args.at.base c.args.places.now c.args.places.now c.args.w.now
    c.args.w.now _ (placed-none c.args.at.base c.args.places.now c.args.w.now)

pub write_parameters-returns-in-UShort : goal.write_parameters-returns-in-UShort
write_parameters-returns-in-UShort t c =
    layer-by (edge_placed c.args.at.levels (known_of c.args.graph.now)) c.args.graph.now c.args.node.now kind.UShort
    (sym c.kind_by.ensures ∙ c.in-UShort.is) c.args.at.base c.args.places.now c.args.places.now c.args.w.now
    c.args.w.now _ (placed-none c.args.at.base c.args.places.now c.args.w.now)

pub write_parameters-returns-in-ULong : goal.write_parameters-returns-in-ULong
write_parameters-returns-in-ULong t c =
    layer-by (edge_placed c.args.at.levels (known_of c.args.graph.now)) c.args.graph.now c.args.node.now kind.ULong
    (sym c.kind_by.ensures ∙ c.in-ULong.is) c.args.at.base c.args.places.now c.args.places.now c.args.w.now
    c.args.w.now _ (placed-none c.args.at.base c.args.places.now c.args.w.now)

pub write_parameters-returns-in-Boolean : goal.write_parameters-returns-in-Boolean
write_parameters-returns-in-Boolean t c =
    layer-by (edge_placed c.args.at.levels (known_of c.args.graph.now)) c.args.graph.now c.args.node.now kind.Boolean
    (sym c.kind_by.ensures ∙ c.in-Boolean.is) c.args.at.base c.args.places.now c.args.places.now c.args.w.now
    c.args.w.now _ (placed-none c.args.at.base c.args.places.now c.args.w.now)

pub write_parameters-returns-in-Char : goal.write_parameters-returns-in-Char
write_parameters-returns-in-Char t c =
    layer-by (edge_placed c.args.at.levels (known_of c.args.graph.now)) c.args.graph.now c.args.node.now kind.Char
    (sym c.kind_by.ensures ∙ c.in-Char.is) c.args.at.base c.args.places.now c.args.places.now c.args.w.now
    c.args.w.now _ (placed-none c.args.at.base c.args.places.now c.args.w.now)

pub write_parameters-returns-in-Octet : goal.write_parameters-returns-in-Octet
write_parameters-returns-in-Octet t c =
    layer-by (edge_placed c.args.at.levels (known_of c.args.graph.now)) c.args.graph.now c.args.node.now kind.Octet
    (sym c.kind_by.ensures ∙ c.in-Octet.is) c.args.at.base c.args.places.now c.args.places.now c.args.w.now
    c.args.w.now _ (placed-none c.args.at.base c.args.places.now c.args.w.now)

pub write_parameters-returns-in-AnyCode : goal.write_parameters-returns-in-AnyCode
write_parameters-returns-in-AnyCode t c =
    layer-by (edge_placed c.args.at.levels (known_of c.args.graph.now)) c.args.graph.now c.args.node.now kind.AnyCode
    (sym c.kind_by.ensures ∙ c.in-AnyCode.is) c.args.at.base c.args.places.now c.args.places.now c.args.w.now
    c.args.w.now _ (placed-none c.args.at.base c.args.places.now c.args.w.now)

pub write_parameters-returns-in-Code : goal.write_parameters-returns-in-Code
write_parameters-returns-in-Code t c =
    layer-by (edge_placed c.args.at.levels (known_of c.args.graph.now)) c.args.graph.now c.args.node.now kind.Code
    (sym c.kind_by.ensures ∙ c.in-Code.is) c.args.at.base c.args.places.now c.args.places.now c.args.w.now
    c.args.w.now _ (placed-none c.args.at.base c.args.places.now c.args.w.now)

pub write_parameters-returns-in-LongLong : goal.write_parameters-returns-in-LongLong
write_parameters-returns-in-LongLong t c =
    layer-by (edge_placed c.args.at.levels (known_of c.args.graph.now)) c.args.graph.now c.args.node.now kind.LongLong
    (sym c.kind_by.ensures ∙ c.in-LongLong.is) c.args.at.base c.args.places.now c.args.places.now c.args.w.now
    c.args.w.now _ (placed-none c.args.at.base c.args.places.now c.args.w.now)

pub write_parameters-returns-in-ULongLong : goal.write_parameters-returns-in-ULongLong
write_parameters-returns-in-ULongLong t c =
    layer-by (edge_placed c.args.at.levels (known_of c.args.graph.now)) c.args.graph.now c.args.node.now kind.ULongLong
    (sym c.kind_by.ensures ∙ c.in-ULongLong.is) c.args.at.base c.args.places.now c.args.places.now c.args.w.now
    c.args.w.now _ (placed-none c.args.at.base c.args.places.now c.args.w.now)

pub write_parameters-returns-in-Str : goal.write_parameters-returns-in-Str
write_parameters-returns-in-Str t c =
    let size = (number 4).writes (natural (number_or_zero c.args.node.now.numbers)) in
    layer-by (edge_placed c.args.at.levels (known_of c.args.graph.now)) c.args.graph.now c.args.node.now kind.Str
    (sym c.kind_by.ensures ∙ c.in-Str.is) c.args.at.base c.args.places.now c.args.places.now c.args.w.now
    c.write_size.new.w c.write_size.result
    (placed-plainly size c.args.at.base c.args.places.now c.args.w.now c.write_size.new.w c.write_size.result
    c.write_size.ensures)

pub write_parameters-returns-in_default : goal.write_parameters-returns-in_default
write_parameters-returns-in_default t c =
    let inner = edge_placed c.args.at.levels (known_of c.args.graph.now) in
    let g = c.args.graph.now in
    let p = c.args.node.now in
    let n = c.in_default in
    let same =
    layer-enclosed inner (switch_in g p) c.kind_by.result p n.not-Null n.not-Void n.not-Short n.not-Long n.not-UShort
    n.not-ULong n.not-Boolean n.not-Char n.not-Octet n.not-AnyCode n.not-Code n.not-LongLong n.not-ULongLong
    n.not-Str in
    let whole = rw c.kind_by.ensures at same in
    rw whole c.write_enclosed.ensures

pub write_enclosed-returns : goal.write_enclosed-returns
write_enclosed-returns t c =
    let inside = inside_placed (edge_placed c.args.at.levels (known_of c.args.graph.now))
    (node_layer c.args.graph.now c.args.node.now) in
    let w = c.args.w.now in
    let start = c.in_ok-inner.ensures in
    let body = c.in_ok-write_inside.ensures in
    placed-within inside c.args.at.base c.in_ok-base_behind.field-0 c.args.places.now c.write_inside.new.places
    c.order.result w c.in_ok-inner.inner c.write_inside.new.w c.octets.new.self c.octets.result
    c.in_ok-base_behind.ensures start.0 start.1 c.order.ensures body.done.0 body.done.1
    (rw c.bytes.ensures at c.octets.ensures)

pub write_each_member-loop-index-init : goal.write_each_member-loop-index-init
write_each_member-loop-index-init t c =
    let p = c.args.node.now in
    let inner = edge_placed c.args.at.levels (known_of c.args.graph.now) in
    leaves-all (row_of_members inner (members_from 0 p))
    (row_of_members inner (members_of (behind_first p.names) p.edges)) c.args.at.base c.args.places.now c.args.w.now
    refl

pub write_each_member-loop-index-preserved : goal.write_each_member-loop-index-preserved
write_each_member-loop-index-preserved t c =
    let p = c.args.node.now in
    let inner = edge_placed c.args.at.levels (known_of c.args.graph.now) in
    let i = c.loop-index.index in
    let few : i < length (members_of (behind_first p.names) p.edges) =
    omega (arith, c.loop-index-test.true, c.member_count-index-end.ensures) in
    let here = rw (c.name_of-name.ensures, c.edge_of.ensures) at c.in_ok-write_member.ensures in
    leaves-on (member_placed inner (name_at p.names (i + 1), edge p i)) (row_of_members inner (members_from i p))
    (row_of_members inner (members_from (i + 1) p))
    (row_of_members inner (members_of (behind_first p.names) p.edges)) c.args.at.base c.args.places.now
    c.loop-index.places c.write_member.new.places c.args.w.now c.loop-index.w c.write_member.new.w
    (members-at inner p i few) c.loop-index.invariant here.done.0 here.done.1 here.order

pub write_each_member-returns : goal.write_each_member-returns
write_each_member-returns t c =
    let p = c.args.node.now in
    let inner = edge_placed c.args.at.levels (known_of c.args.graph.now) in
    let i = c.loop-index.index in
    let all : length (members_of (behind_first p.names) p.edges) ≤ i =
    omega (arith, c.loop-index-test.false, c.member_count-index-end.ensures) in
    leaves-none (row_of_members inner (members_from i p))
    (row_of_members inner (members_of (behind_first p.names) p.edges)) c.args.at.base c.args.places.now
    c.loop-index.places c.args.w.now c.loop-index.w (members-done inner p i all) c.loop-index.invariant

pub write_each_member-returns-in_err-write_member : goal.write_each_member-returns-in_err-write_member
write_each_member-returns-in_err-write_member t c =
    let p = err_from_is_err_and c.from_residual.result c.from_residual.ensures.1 in
    let n = c.args.node.now in
    let inner = edge_placed c.args.at.levels (known_of c.args.graph.now) in
    let e = c.in_err-write_member.ensures in
    rw p.1
    (leaves-fails (row_of_members inner (members_from c.loop-index.index n))
    (row_of_members inner (members_of (behind_first n.names) n.edges)) c.args.at.base c.args.places.now
    c.loop-index.places c.write_member.new.places c.args.w.now c.loop-index.w c.write_member.new.w p.0
    c.loop-index.invariant e.order e.kept)

pub write_each_arm-loop-index-init : goal.write_each_arm-loop-index-init
write_each_arm-loop-index-init t c =
    let p = c.args.node.now in
    let inner = edge_placed c.args.at.levels (known_of c.args.graph.now) in
    leaves-all (row_of_arms inner (arms_from c.args.switch 0 p)) (row_of_arms inner (arms_in c.args.switch p))
    c.args.at.base c.args.places.now c.args.w.now refl

pub write_each_arm-loop-index-preserved : goal.write_each_arm-loop-index-preserved
write_each_arm-loop-index-preserved t c =
    let p = c.args.node.now in
    let k = c.args.switch in
    let inner = edge_placed c.args.at.levels (known_of c.args.graph.now) in
    let i = c.loop-index.index in
    let few : i < length (arms_in k p) = omega (
      arith,
      c.loop-index-test.true,
      c.arm_count-index-end.ensures,
      arms-total k p,
    ) in
    let v = value_of_number k (natural (label_number_at p.numbers (i + 1))) in
    let label = rw c.in_ok-label_at.ensures at c.in_ok-put_label.ensures in
    let member = rw (c.name_of-name.ensures, c.edge_of.ensures) at c.in_ok-write_member.ensures in
    let whole =
    plainly-then (plain_piece v) (member_placed inner (name_at p.names (i + 1), edge p (i + 1))) c.args.at.base
    c.loop-index.places c.write_member.new.places c.loop-index.w c.put_label.new.w c.write_member.new.w _ label.done
    label.order member in
    leaves-on (arm_placed inner (arm_at k p (i + 1))) (row_of_arms inner (arms_from k i p))
    (row_of_arms inner (arms_from k (i + 1) p)) (row_of_arms inner (arms_in k p)) c.args.at.base c.args.places.now
    c.loop-index.places c.write_member.new.places c.args.w.now c.loop-index.w c.write_member.new.w
    (arms-at inner k p i few) c.loop-index.invariant whole.done.0 whole.done.1 whole.order

pub write_each_arm-returns : goal.write_each_arm-returns
write_each_arm-returns t c =
    let p = c.args.node.now in
    let k = c.args.switch in
    let inner = edge_placed c.args.at.levels (known_of c.args.graph.now) in
    let i = c.loop-index.index in
    let all : length (arms_in k p) ≤ i = omega (
      arith,
      c.loop-index-test.false,
      c.arm_count-index-end.ensures,
      arms-total k p,
    ) in
    leaves-none (row_of_arms inner (arms_from k i p)) (row_of_arms inner (arms_in k p)) c.args.at.base
    c.args.places.now c.loop-index.places c.args.w.now c.loop-index.w (arms-done inner k p i all)
    c.loop-index.invariant

pub write_each_arm-returns-in_err-label_at : goal.write_each_arm-returns-in_err-label_at
write_each_arm-returns-in_err-label_at t c =
    let p = err_from_is_err_and c.from_residual.result c.from_residual.ensures.1 in
    let inner = edge_placed c.args.at.levels (known_of c.args.graph.now) in
    rw p.1
    (leaves-fails (row_of_arms inner (arms_from c.args.switch c.loop-index.index c.args.node.now))
    (row_of_arms inner (arms_in c.args.switch c.args.node.now)) c.args.at.base c.args.places.now c.loop-index.places
    c.loop-index.places c.args.w.now c.loop-index.w c.loop-index.w p.0 c.loop-index.invariant refl
    (kept-whole c.loop-index.w c.loop-index.w refl))

pub write_each_arm-returns-in_err-put_label : goal.write_each_arm-returns-in_err-put_label
write_each_arm-returns-in_err-put_label t c =
    let p = err_from_is_err_and c.from_residual-in_err-put_label.result c.from_residual-in_err-put_label.ensures.1 in
    let inner = edge_placed c.args.at.levels (known_of c.args.graph.now) in
    let e = c.in_err-put_label.ensures in
    rw p.1
    (leaves-fails (row_of_arms inner (arms_from c.args.switch c.loop-index.index c.args.node.now))
    (row_of_arms inner (arms_in c.args.switch c.args.node.now)) c.args.at.base c.args.places.now c.loop-index.places
    c.loop-index.places c.args.w.now c.loop-index.w c.put_label.new.w p.0 c.loop-index.invariant e.order e.kept)

pub write_each_arm-returns-in_err-write_member : goal.write_each_arm-returns-in_err-write_member
write_each_arm-returns-in_err-write_member t c =
    let p = err_from_is_err_and c.from_residual-in_err-write_member.result
    c.from_residual-in_err-write_member.ensures.1 in
    let inner = edge_placed c.args.at.levels (known_of c.args.graph.now) in
    let label = c.in_ok-put_label.ensures in
    let e = c.in_err-write_member.ensures in
    rw p.1
    (leaves-fails (row_of_arms inner (arms_from c.args.switch c.loop-index.index c.args.node.now))
    (row_of_arms inner (arms_in c.args.switch c.args.node.now)) c.args.at.base c.args.places.now c.loop-index.places
    c.write_member.new.places c.args.w.now c.loop-index.w c.write_member.new.w p.0 c.loop-index.invariant
    (e.order ∙ label.order)
    (still-kept c.loop-index.w.bytes c.put_label.new.w.bytes c.write_member.new.w.bytes _ label.done e.kept))

pub write_arms-returns : goal.write_arms-returns
write_arms-returns t c =
    let p = c.args.node.now in
    let k = switch_in c.args.graph.now p in
    let inner = edge_placed c.args.at.levels (known_of c.args.graph.now) in
    let head = rw (
      c.arm_count.ensures,
      arms-total k p,
      to_z-of_z c.in_ok-default.ensures.fits,
      c.in_ok-default.ensures.value,
    ) at c.in_ok-write_head.ensures in
    let arms = rw c.switch_kind.ensures at c.write_each_arm.ensures in
    plainly-then (head_piece (number_or_zero p.numbers) (length (arms_in k p))) (row_of_arms inner (arms_in k p))
    c.args.at.base c.args.places.now c.write_each_arm.new.places c.args.w.now c.write_head.new.w
    c.write_each_arm.new.w c.write_each_arm.result head.done head.order arms

pub write_node-returns : goal.write_node-returns
write_node-returns t c =
    let p = c.args.node.now in
    let k = kind_of_number p.kind in
    let g = c.args.graph.now in
    let inner = edge_placed (c.args.at.levels - 1) (known_of g) in
    let kind = rw (c.number.ensures, c.kind_by.ensures) at c.in_ok-u32.ensures.done in
    placed-then (kind_placed k) (layer_placed inner (node_layer g p)) c.args.at.base c.args.places.now
    c.push.new.self c.write_parameters.new.places c.args.w.now c.u32.new.self c.write_parameters.new.w
    c.write_parameters.result kind.0
    (c.in_ok-push.ensures.ok ∙ ap (λ (n : ℕ). c.args.places.now ++ n ∷ []) c.in_ok-place.ensures) kind.1
    c.write_parameters.ensures

pub write_enclosed-returns-in_err-base_behind : goal.write_enclosed-returns-in_err-base_behind
write_enclosed-returns-in_err-base_behind t c =
    let p = err_from_is_err_and c.from_residual.result c.from_residual.ensures.1 in
    rw p.1 (placed-fails _ c.args.at.base c.args.places.now c.args.places.now c.args.w.now p.0)

pub write_enclosed-returns-in_err-inner : goal.write_enclosed-returns-in_err-inner
write_enclosed-returns-in_err-inner t c =
    let p = err_from_is_err_and c.from_residual-in_err-inner.result c.from_residual-in_err-inner.ensures.1 in
    rw p.1 (placed-fails _ c.args.at.base c.args.places.now c.args.places.now c.args.w.now p.0)

pub write_enclosed-returns-in_err-write_inside : goal.write_enclosed-returns-in_err-write_inside
write_enclosed-returns-in_err-write_inside t c =
    let p =
    err_from_is_err_and c.from_residual-in_err-write_inside.result c.from_residual-in_err-write_inside.ensures.1 in
    rw p.1 (placed-fails _ c.args.at.base c.args.places.now c.write_inside.new.places c.args.w.now p.0)

use Rattle.std.proofs.Common.{◌∙◌, refl, sym}
use Rattle.std.proofs.lemmas.List.{append-nil}
use Rattle.td_typecode.specs.WritingCodes.{member_piece, arm_piece}
use Rattle.td_cdr.proofs.SequenceWriting.{goes_on}
use Rattle.std.proofs.Common.{length, map}
use Rattle.std.proofs.lemmas.List.{take_all}
use Rattle.td_cdr.specs.Format.{row, number, text, ◌then◌}
use Rattle.td_typecode.specs.declared.kinds.CodeKind.TheVariants as kind
use Rattle.td_typecode.specs.Codes.{kind_of}
use Rattle.td_typecode.specs.Labels.{label_of, label_piece}
use Rattle.td_typecode.specs.WritingCodes.{code_piece, header_piece, head_piece, kind_piece, arm_piece-is}
use Rattle.td_typecode.specs.WritingCodes.{member_piece-is}
use Rattle.td_typecode.proofs.WrittenParts.{writes-then, writes-whole, writes-added, appends-added, encapsulated}
use Rattle.td_typecode.proofs.AtLayers.{object-piece, struct-piece, except-piece, graph-piece, union-piece, enum-piece}
use Rattle.td_typecode.proofs.AtLayers.{sequence-piece, array-piece, alias-piece, str-piece, encapsulation-two}
use Rattle.td_typecode.proofs.OfPlainKind.{plain-else, plain-piece}
use Rattle.td_typecode.proofs.writing.+writing.Goals as goal

pub write_members-loop-member-preserved : goal.write_members-loop-member-preserved
write_members-loop-member-preserved t c = record {
  bytes =
      goes_on member_piece c.args.members.now c.loop-member.member-index c.member-item.result c.args.w.now.order
      c.args.w.now.bytes c.loop-member.w.bytes c.write_member.new.w.bytes c.loop-member-test.true c.member-item.is
      c.loop-member.invariant.bytes (rw c.loop-member.invariant.order at c.in_ok-write_member.ensures.done);
  order = c.in_ok-write_member.ensures.order ∙ c.loop-member.invariant.order;
}

pub write_arms-loop-arm-preserved : goal.write_arms-loop-arm-preserved
write_arms-loop-arm-preserved t c = record {
  bytes =
      goes_on arm_piece c.args.arms.now c.loop-arm.arm-index c.arm-item.result c.args.w.now.order c.args.w.now.bytes
      c.loop-arm.w.bytes c.write_arm.new.w.bytes c.loop-arm-test.true c.arm-item.is c.loop-arm.invariant.bytes
      (rw c.loop-arm.invariant.order at c.in_ok-write_arm.ensures.done);
  order = c.in_ok-write_arm.ensures.order ∙ c.loop-arm.invariant.order;
}

pub write_typecode-returns-in-Str : goal.write_typecode-returns-in-Str
write_typecode-returns-in-Str t c =
    rw (c.in-Str.is, str-piece c.in-Str.bound)
    (c.write_two.ensures)

pub write_typecode-returns-in-ObjRef : goal.write_typecode-returns-in-ObjRef
write_typecode-returns-in-ObjRef t c =
    rw (c.in-ObjRef.is, object-piece c.in-ObjRef.id c.in-ObjRef.name)
    c.write_object.ensures

pub write_typecode-returns-in-Struct : goal.write_typecode-returns-in-Struct
write_typecode-returns-in-Struct t c =
    rw (c.in-Struct.is, struct-piece c.in-Struct.id c.in-Struct.name c.in-Struct.members)
    (rw c.as_slice.ensures at c.write_fields.ensures)

pub write_typecode-returns-in_ok-write_back-in-Union :
    goal.write_typecode-returns-in_ok-write_back-in-Union
write_typecode-returns-in_ok-write_back-in-Union t c =
    let u = c.in-Union in
    let first =
    rw c.get.ensures at c.in_ok-write_front-in-Union.ensures in
    let second = rw c.as_slice-in-Union.ensures at c.in_ok-write_back-in-Union.ensures in
    let bytes =
    encapsulation-two (header_piece u.id u.name then code_piece u.switch)
    (head_piece u.default (length u.arms) then row (map arm_piece u.arms)) c.order.result c.in_ok-inner-in-Union.inner
    c.write_front.new.w c.write_back.new.w
    c.in_ok-inner-in-Union.ensures.0 c.in_ok-inner-in-Union.ensures.1 first.done first.order second.done in
    let inside = rw c.order.ensures at bytes in
    let e = c.write_encapsulation.ensures in
    rw (u.is, union-piece u.id u.name u.switch u.default u.arms)
    (record { done = rw inside at e.done; order = e.order; refused = e.refused })

pub write_typecode-returns-in-Enum : goal.write_typecode-returns-in-Enum
write_typecode-returns-in-Enum t c =
    rw (c.in-Enum.is, enum-piece c.in-Enum.id c.in-Enum.name c.in-Enum.labels)
    (rw c.as_slice-in-Enum.ensures at c.write_enumeration.ensures)

pub write_typecode-returns-in-Sequence : goal.write_typecode-returns-in-Sequence
write_typecode-returns-in-Sequence t c =
    rw (c.in-Sequence.is, sequence-piece c.in-Sequence.item c.in-Sequence.bound)
    (rw (c.get-in-Sequence.ensures) at c.write_items.ensures)

pub write_typecode-returns-in-Array : goal.write_typecode-returns-in-Array
write_typecode-returns-in-Array t c =
    rw (c.in-Array.is, array-piece c.in-Array.item c.in-Array.len)
    (rw (c.get-in-Array.ensures) at c.write_items-in-Array.ensures)

pub write_typecode-returns-in-Alias : goal.write_typecode-returns-in-Alias
write_typecode-returns-in-Alias t c =
    rw (c.in-Alias.is, alias-piece c.in-Alias.id c.in-Alias.name c.in-Alias.item)
    (rw c.get-in-Alias.ensures at c.write_alias.ensures)

pub write_typecode-returns-in-Linked : goal.write_typecode-returns-in-Linked
write_typecode-returns-in-Linked t c =
    rw (graph-piece c.args.code.now _ c.in-Linked.is)
    (record { done = sym (append-nil c.args.w.now.bytes); order = refl; refused = tt })

pub write_typecode-returns-in-Except : goal.write_typecode-returns-in-Except
write_typecode-returns-in-Except t c =
    rw (c.in-Except.is, except-piece c.in-Except.id c.in-Except.name c.in-Except.members)
    (rw c.as_slice-in-Except.ensures at c.write_fields-in-Except.ensures)

pub write_member-returns : goal.write_member-returns
write_member-returns t c =
    let name = rw c.as_slice.ensures at c.in_ok-string.ensures.done in
    let m = c.args.member.now in
    rw (member_piece-is m)
    (writes-then (text.writes m.name) (code_piece m.code) c.args.w.now c.string.new.self c.write_typecode.new.w
    c.write_typecode.result name.0 name.1
    (writes-whole (code_piece m.code) c.string.new.self c.write_typecode.new.w c.write_typecode.result
    c.write_typecode.ensures))

pub write_arm-returns : goal.write_arm-returns
write_arm-returns t c =
    let label = rw c.label_of.ensures at c.in_ok-write_label.ensures.done in
    let name = rw c.as_slice.ensures at c.in_ok-string.ensures.done in
    let a = c.args.arm.now in
    rw (arm_piece-is a)
    (writes-then (label_piece (label_of a.label)) (text.writes a.name then code_piece a.code) c.args.w.now
    c.write_label.new.w c.write_typecode.new.w c.write_typecode.result label c.in_ok-write_label.ensures.order
    (writes-then (text.writes a.name) (code_piece a.code) c.write_label.new.w c.string.new.self c.write_typecode.new.w
    c.write_typecode.result name.0 name.1
    (writes-whole (code_piece a.code) c.string.new.self c.write_typecode.new.w c.write_typecode.result
    c.write_typecode.ensures)))

pub write_front-returns : goal.write_front-returns
write_front-returns t c =
    writes-then (header_piece c.args.id.now c.args.name.now) (code_piece c.args.item.now) c.args.w.now
    c.write_texts.new.w c.write_typecode.new.w c.write_typecode.result c.in_ok-write_texts.ensures.done
    c.in_ok-write_texts.ensures.order
    (writes-whole (code_piece c.args.item.now) c.write_texts.new.w c.write_typecode.new.w c.write_typecode.result
    c.write_typecode.ensures)

pub write_struct-returns : goal.write_struct-returns
write_struct-returns t c =
    let members = c.args.members.now in
    let rows = row (map member_piece members) in
    writes-then (header_piece c.args.id.now c.args.name.now) ((number 4).writes (length members) then rows)
    c.args.w.now c.write_texts.new.w c.write_members.new.w c.write_members.result c.in_ok-write_texts.ensures.done
    c.in_ok-write_texts.ensures.order
    (writes-then ((number 4).writes (length members)) rows c.write_texts.new.w c.write_count.new.w
    c.write_members.new.w c.write_members.result c.in_ok-write_count.ensures.done c.in_ok-write_count.ensures.order
    c.write_members.ensures)

pub write_back-returns : goal.write_back-returns
write_back-returns t c =
    writes-then (head_piece c.args.default.now (length c.args.arms.now)) (row (map arm_piece c.args.arms.now))
    c.args.w.now c.write_head.new.w c.write_arms.new.w c.write_arms.result c.in_ok-write_head.ensures.done
    c.in_ok-write_head.ensures.order c.write_arms.ensures

pub write_item_and_size-returns : goal.write_item_and_size-returns
write_item_and_size-returns t c =
    let size = (number 4).writes c.args.bound in
    writes-then (code_piece c.args.item.now) size c.args.w.now c.write_typecode.new.w c.u32.new.self c.u32.result
    c.in_ok-write_typecode.ensures.done c.in_ok-write_typecode.ensures.order
    (writes-added size c.write_typecode.new.w c.u32.new.self c.u32.result c.u32.ensures)

pub write_alias-returns : goal.write_alias-returns
write_alias-returns t c =
    encapsulated (kind_piece kind.Alias)
    (header_piece c.args.id.now c.args.name.now then code_piece c.args.item.now) c.order.result c.in_ok-inner.inner
    c.write_front.new.w c.args.w.now c.write_encapsulation.new.w c.write_encapsulation.result
    c.in_ok-inner.ensures.0 c.in_ok-inner.ensures.1 c.order.ensures c.in_ok-write_front.ensures.done
    c.write_encapsulation.ensures

pub write_items-returns : goal.write_items-returns
write_items-returns t c =
    encapsulated (kind_piece c.args.kind) (code_piece c.args.item.now then (number 4).writes c.args.size)
    c.order.result c.in_ok-inner.inner c.write_item_and_size.new.w c.args.w.now c.write_encapsulation.new.w
    c.write_encapsulation.result c.in_ok-inner.ensures.0 c.in_ok-inner.ensures.1 c.order.ensures
    c.in_ok-write_item_and_size.ensures.done c.write_encapsulation.ensures

pub write_fields-returns : goal.write_fields-returns
write_fields-returns t c =
    encapsulated (kind_piece c.args.kind)
    (header_piece c.args.id.now c.args.name.now then (number 4).writes (length c.args.members.now)
    then row (map member_piece c.args.members.now))
    c.order.result c.in_ok-inner.inner c.write_struct.new.w c.args.w.now c.write_encapsulation.new.w
    c.write_encapsulation.result c.in_ok-inner.ensures.0 c.in_ok-inner.ensures.1 c.order.ensures
    c.in_ok-write_struct.ensures.done c.write_encapsulation.ensures

pub write_arms-returns : goal.write_arms-returns
write_arms-returns t c = record {
  done = rw (take_all c.loop-arm.arm-index c.args.arms.now c.loop-arm-test.false) at c.loop-arm.invariant.bytes;
  order = c.loop-arm.invariant.order;
}

pub write_members-returns : goal.write_members-returns
write_members-returns t c = record {
  done =
      rw (take_all c.loop-member.member-index c.args.members.now c.loop-member-test.false) at
      c.loop-member.invariant.bytes;
  order = c.loop-member.invariant.order;
}

pub write_typecode-returns-in_default : goal.write_typecode-returns-in_default
write_typecode-returns-in_default t c =
    let n = c.in_default in
    let plain =
    plain-else c.args.code.now n.not-Str n.not-ObjRef n.not-Struct n.not-Union n.not-Enum n.not-Sequence n.not-Array
    n.not-Alias n.not-Except n.not-Linked in
    rw (plain-piece c.args.code.now plain)
    (appends-added (kind_piece (kind_of c.args.code.now)) c.args.w.now c.u32.new.self c.u32.result
    (rw (c.number.ensures, c.kind_of.ensures) at c.u32.ensures))

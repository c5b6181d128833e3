use Rattle.std.proofs.Common.{◌≡◌, ◌+◌, ◌-◌, ◌∙◌, length, refl, sym, ap, true≢false, arith}
use Rattle.std.specs.Prelude.{Some, None}
use Rattle.std.proofs.lemmas.Result.{err_from_is_err_and}
use Rattle.std.specs.Int.{w32}
use Rattle.std.proofs.Math.Facts.{to_z-of_z}
use mir.Val.{to_z, of_z}
use Rattle.td_indirection.specs.Choices.{array, sequence_with}
use Rattle.td_indirection.specs.Pairs.{lift}
use Rattle.td_indirection.specs.Ulongs.{ulong-sized}
use Rattle.td_cdr.specs.Sound.{ulong, text}
use Rattle.td_typecode.specs.declared.mode.Mode.TheVariants.{Inner, Switch}
use Rattle.td_typecode.specs.Codes.{header}
use Rattle.td_typecode.specs.GraphCodes.{edges, member_node, arm_node}
use Rattle.td_typecode.specs.NodeReading.{discriminator_label, enclosed_layer}
use Rattle.td_typecode.proofs.GraphParts.{both-on, second-fails, begins-on, goes-on, ends-on, done-on, sequence-on}
use Rattle.td_typecode.proofs.GraphParts.{none-there}
use Rattle.td_typecode.proofs.GraphParts.{some-there, struct-on, except-on, sequence-layer-on, array-layer-on, alias-on}
use Rattle.td_typecode.proofs.GraphParts.{alias-fails, union-on, union-fails, arms-on, arms-fail, within-on}
use Rattle.td_typecode.proofs.GraphParts.{within-fails}
use Rattle.td_typecode.proofs.GraphParts.{none-within, enclosed-on, enclosed-none, edge-fails, edge-node, edge-led}
use Rattle.td_typecode.proofs.GraphParts.{arms-cut, node-there, node-crowded, node-fails, node-on, sequence-fails}
use Rattle.td_typecode.specs.NodeLayers.{GraphAt}
use Rattle.td_typecode.proofs.graph_reading.+graph_reading.Goals as goal

-- ---- loops

pub members_of-loop-init : goal.members_of-loop-init
members_of-loop-init t c =
    begins-on (member_node (edges c.args.levels)) c.new-members.result c.args.count (c.args.count - 0)
    c.args.g.now.state c.args.g.now.at c.new-members.ensures (omega arith)

pub members_of-loop-preserved : goal.members_of-loop-preserved
members_of-loop-preserved t c =
    let m = member_node (edges c.args.levels) in
    rw c.in_ok-push.ensures.ok
    (goes-on m c.loop.members c.args.count c.loop.counter c.loop.g.state c.member_at.new.g.state c.loop.g.at
    c.member_at.new.g.at _ ((array m c.args.count).format.reads c.args.g.now.state c.args.g.now.at) c.loop-test.true
    c.in_ok-member.ensures c.loop.invariant)

pub members_of-returns-in_err-member : goal.members_of-returns-in_err-member
members_of-returns-in_err-member t c =
    let p = err_from_is_err_and c.from_residual.result c.from_residual.ensures.1 in
    let m = member_node (edges c.args.levels) in
    rw (p.1, p.2)
    (ends-on m c.loop.members c.args.count c.loop.counter c.loop.g.state c.loop.g.at _
    ((array m c.args.count).format.reads c.args.g.now.state c.args.g.now.at) c.loop-test.true c.in_err-member.ensures
    c.loop.invariant)

pub members_of-returns : goal.members_of-returns
members_of-returns t c =
    let m = member_node (edges c.args.levels) in
    done-on m c.loop.members c.args.count c.loop.counter c.loop.g.state c.loop.g.at
    ((array m c.args.count).format.reads c.args.g.now.state c.args.g.now.at) c.loop-test.false c.loop.invariant

pub arms_of-loop-init : goal.arms_of-loop-init
arms_of-loop-init t c =
    begins-on (arm_node (edges c.args.levels) (discriminator_label c.args.labels)) c.new-arms.result c.args.count
    (c.args.count - 0) c.args.g.now.state c.args.g.now.at c.new-arms.ensures (omega arith)

pub arms_of-loop-preserved : goal.arms_of-loop-preserved
arms_of-loop-preserved t c =
    let m = arm_node (edges c.args.levels) (discriminator_label c.args.labels) in
    rw c.in_ok-push.ensures.ok
    (goes-on m c.loop.arms c.args.count c.loop.counter c.loop.g.state c.arm_at.new.g.state c.loop.g.at
    c.arm_at.new.g.at _ ((array m c.args.count).format.reads c.args.g.now.state c.args.g.now.at) c.loop-test.true
    c.in_ok-arm.ensures c.loop.invariant)

pub arms_of-returns-in_err-arm : goal.arms_of-returns-in_err-arm
arms_of-returns-in_err-arm t c =
    let p = err_from_is_err_and c.from_residual.result c.from_residual.ensures.1 in
    let m = arm_node (edges c.args.levels) (discriminator_label c.args.labels) in
    rw (p.1, p.2)
    (ends-on m c.loop.arms c.args.count c.loop.counter c.loop.g.state c.loop.g.at _
    ((array m c.args.count).format.reads c.args.g.now.state c.args.g.now.at) c.loop-test.true c.in_err-arm.ensures
    c.loop.invariant)

pub arms_of-returns : goal.arms_of-returns
arms_of-returns t c =
    let m = arm_node (edges c.args.levels) (discriminator_label c.args.labels) in
    done-on m c.loop.arms c.args.count c.loop.counter c.loop.g.state c.loop.g.at
    ((array m c.args.count).format.reads c.args.g.now.state c.args.g.now.at) c.loop-test.false c.loop.invariant

-- ---- parts

pub member_at-returns : goal.member_at-returns
member_at-returns t c =
    both-on (lift text) (edges c.args.levels Inner None) c.args.g.now.state c.text.new.self.state c.inner_at.new.g.state
    c.args.g.now.at c.text.new.self.at c.inner_at.new.g.at c.in_ok-name.name c.in_ok-number.number c.in_ok-name.ensures
    c.in_ok-number.ensures

pub front_at-returns : goal.front_at-returns
front_at-returns t c =
    both-on (lift header) (edges c.args.levels Switch None) c.args.g.now.state c.header.new.self.state
    c.edge_at.new.g.state c.args.g.now.at c.header.new.self.at c.edge_at.new.g.at c.in_ok-header.header
    c.in_ok-switch.switch c.in_ok-header.ensures c.in_ok-switch.ensures

pub arm_at-returns-in-Ok : goal.arm_at-returns-in-Ok
arm_at-returns-in-Ok t c =
    both-on (lift (discriminator_label c.args.labels)) (member_node (edges c.args.levels)) c.args.g.now.state
    c.label.new.self.state c.member_at.new.g.state c.args.g.now.at c.label.new.self.at c.member_at.new.g.at
    c.in_ok-label.label c.in-Ok.member c.in_ok-label.ensures c.in-Ok.ensures

pub arm_at-returns-in-Err : goal.arm_at-returns-in-Err
arm_at-returns-in-Err t c =
    second-fails (lift (discriminator_label c.args.labels)) (member_node (edges c.args.levels)) c.args.g.now.state
    c.label.new.self.state c.args.g.now.at c.label.new.self.at c.member_at.new.g.at c.in_ok-label.label c.in-Err.fault
    c.in_ok-label.ensures c.in-Err.ensures

pub struct_at-returns : goal.struct_at-returns
struct_at-returns t c =
    struct-on (edges c.args.levels) c.args.g.now.state c.header.new.self.state c.fields_at.new.g.state c.args.g.now.at
    c.header.new.self.at c.fields_at.new.g.at (c.in_ok-id.id, c.in_ok-id.name) c.in_ok-members.members
    c.in_ok-id.ensures c.in_ok-members.ensures

pub except_at-returns : goal.except_at-returns
except_at-returns t c =
    except-on (edges c.args.levels) c.args.g.now.state c.header.new.self.state c.members_at.new.g.state c.args.g.now.at
    c.header.new.self.at c.members_at.new.g.at (c.in_ok-id.id, c.in_ok-id.name) c.in_ok-members.members
    c.in_ok-id.ensures c.in_ok-members.ensures

pub sequence_at-returns : goal.sequence_at-returns
sequence_at-returns t c =
    sequence-layer-on (edges c.args.levels) c.args.g.now.state c.inner_at.new.g.state c.ulong.new.self.state
    c.args.g.now.at c.inner_at.new.g.at c.ulong.new.self.at c.in_ok-item.item c.in_ok-size.size c.in_ok-item.ensures
    c.in_ok-size.ensures.gives

pub array_at-returns : goal.array_at-returns
array_at-returns t c =
    array-layer-on (edges c.args.levels) c.args.g.now.state c.inner_at.new.g.state c.positive.new.self.state
    c.args.g.now.at c.inner_at.new.g.at c.positive.new.self.at c.in_ok-item.item c.in_ok-size.size c.in_ok-item.ensures
    c.in_ok-size.ensures

pub fields_at-returns-then-is_empty : goal.fields_at-returns-then-is_empty
fields_at-returns-then-is_empty t c =
    rw c.aligned-place.ensures.value
    (none-there (sequence_with ulong ulong-sized (member_node (edges c.args.levels))) c.args.g.now.state
    c.members_at.new.g.state c.args.g.now.at c.members_at.new.g.at c.in_ok-members.members c.in_ok-members.ensures
    (c.is_empty.ensures.0 c.if-is_empty.true))

pub fields_at-returns : goal.fields_at-returns
fields_at-returns t c =
    some-there (sequence_with ulong ulong-sized (member_node (edges c.args.levels))) c.args.g.now.state
    c.members_at.new.g.state c.args.g.now.at c.members_at.new.g.at c.in_ok-members.members c.in_ok-members.ensures
    (λ none. true≢false (sym (c.is_empty.ensures.1 none) ∙ c.if-is_empty.false))

pub enclosed_at-returns-in-ObjRef : goal.enclosed_at-returns-in-ObjRef
enclosed_at-returns-in-ObjRef t c = rw c.in-ObjRef.is c.object_at.ensures

pub enclosed_at-returns-in-Struct : goal.enclosed_at-returns-in-Struct
enclosed_at-returns-in-Struct t c = rw c.in-Struct.is c.struct_at.ensures

pub enclosed_at-returns-in-Union : goal.enclosed_at-returns-in-Union
enclosed_at-returns-in-Union t c = rw c.in-Union.is c.union_at.ensures

pub enclosed_at-returns-in-Enum : goal.enclosed_at-returns-in-Enum
enclosed_at-returns-in-Enum t c = rw c.in-Enum.is c.enum_at.ensures

pub enclosed_at-returns-in-Sequence : goal.enclosed_at-returns-in-Sequence
enclosed_at-returns-in-Sequence t c = rw c.in-Sequence.is c.sequence_at.ensures

pub enclosed_at-returns-in-Array : goal.enclosed_at-returns-in-Array
enclosed_at-returns-in-Array t c = rw c.in-Array.is c.array_at.ensures

pub enclosed_at-returns-in-Alias : goal.enclosed_at-returns-in-Alias
enclosed_at-returns-in-Alias t c = rw c.in-Alias.is c.alias_at.ensures

pub enclosed_at-returns-in-Except : goal.enclosed_at-returns-in-Except
enclosed_at-returns-in-Except t c = rw c.in-Except.is c.except_at.ensures

pub layer_at-returns-in-Null : goal.layer_at-returns-in-Null
layer_at-returns-in-Null t c = rw c.in-Null.is refl

pub layer_at-returns-in-Void : goal.layer_at-returns-in-Void
layer_at-returns-in-Void t c = rw c.in-Void.is refl

pub layer_at-returns-in-Short : goal.layer_at-returns-in-Short
layer_at-returns-in-Short t c = rw c.in-Short.is refl

pub layer_at-returns-in-Long : goal.layer_at-returns-in-Long
layer_at-returns-in-Long t c = rw c.in-Long.is refl

pub layer_at-returns-in-UShort : goal.layer_at-returns-in-UShort
layer_at-returns-in-UShort t c = rw c.in-UShort.is refl

pub layer_at-returns-in-ULong : goal.layer_at-returns-in-ULong
layer_at-returns-in-ULong t c = rw c.in-ULong.is refl

pub layer_at-returns-in-Boolean : goal.layer_at-returns-in-Boolean
layer_at-returns-in-Boolean t c = rw c.in-Boolean.is refl

pub layer_at-returns-in-Char : goal.layer_at-returns-in-Char
layer_at-returns-in-Char t c = rw c.in-Char.is refl

pub layer_at-returns-in-Octet : goal.layer_at-returns-in-Octet
layer_at-returns-in-Octet t c = rw c.in-Octet.is refl

pub layer_at-returns-in-AnyCode : goal.layer_at-returns-in-AnyCode
layer_at-returns-in-AnyCode t c = rw c.in-AnyCode.is refl

pub layer_at-returns-in-Code : goal.layer_at-returns-in-Code
layer_at-returns-in-Code t c = rw c.in-Code.is refl

pub layer_at-returns-in-LongLong : goal.layer_at-returns-in-LongLong
layer_at-returns-in-LongLong t c = rw c.in-LongLong.is refl

pub layer_at-returns-in-ULongLong : goal.layer_at-returns-in-ULongLong
layer_at-returns-in-ULongLong t c = rw c.in-ULongLong.is refl

pub layer_at-returns-in_ok-ulong-in-Str : goal.layer_at-returns-in_ok-ulong-in-Str
layer_at-returns-in_ok-ulong-in-Str t c = rw (c.in-Str.is, c.in_ok-ulong-in-Str.ensures.gives) refl

pub alias_at-returns : goal.alias_at-returns
alias_at-returns t c =
    let same = rw c.count.ensures.value at c.chain_start.ensures in
    let item = rw c.under.ensures at c.in_ok-item.ensures in
    alias-on (edges c.args.levels) c.args.at.mode c.args.at.chain (length c.args.g.now.state.table - 1)
    (Some c.chain_start.result) c.args.g.now.state c.header.new.self.state c.edge_at.new.g.state c.args.g.now.at
    c.header.new.self.at c.edge_at.new.g.at (c.in_ok-id.id, c.in_ok-id.name) c.in_ok-item.item same c.in_ok-id.ensures
    item

pub union_at-returns : goal.union_at-returns
union_at-returns t c =
    let whole : c.in_ok-choices.choices.0 ≡ to_z w32 (of_z w32 c.in_ok-choices.choices.0) =
    sym (to_z-of_z c.in_ok-choices.ensures.fits) in
    rw (← whole)
    (union-on (edges c.args.levels) c.args.g.now.state c.front_at.new.g.state c.choices_at.new.g.state c.args.g.now.at
    c.front_at.new.g.at c.choices_at.new.g.at c.in_ok-header.header c.in_ok-header.switch
    (length c.front_at.new.g.state.table + 1) c.discriminator-labels.result c.in_ok-choices.choices refl
    c.discriminator-labels.ensures c.in_ok-header.ensures c.in_ok-choices.ensures.read)

pub choices_at-returns-clause-read : goal.choices_at-returns-clause-read
choices_at-returns-clause-read t c =
    let whole : c.in_ok-head.head.0 ≡ to_z w32 (of_z w32 c.in_ok-head.head.0) =
    sym (to_z-of_z c.in_ok-head.ensures.fits) in
    rw (← whole)
    (arms-on (edges c.args.levels) (discriminator_label c.args.labels) c.args.g.now.state c.head.new.self.state
    c.arms_of.new.g.state c.args.g.now.at c.head.new.self.at c.arms_of.new.g.at c.in_ok-head.head c.in_ok-arms.arms
    c.in_ok-head.ensures.passes.0 c.in_ok-head.ensures.passes.1 c.in_ok-arms.ensures)

pub within_at-returns : goal.within_at-returns
within_at-returns t c =
    rw c.leave.ensures
    (within-on (edges c.args.levels) c.args.at.mode c.args.at.chain c.args.kind c.args.g.now.state
    c.in_ok-inner.inner.state
    c.enclosed_at.new.g.state c.enter.new.self.state c.args.g.now.at c.in_ok-inner.inner.at c.enter.new.self.at
    c.enclosed_at.new.g.at _ c.in_ok-inner.ensures.0 c.in_ok-inner.ensures.1 c.in_ok-layer.ensures
    c.in_ok-inner.ensures.2)

pub enclosed_at-returns-in_default : goal.enclosed_at-returns-in_default
enclosed_at-returns-in_default t c =
    let n = c.in_default in
    rw (
      enclosed-none (edges c.args.levels) c.args.at.mode c.args.at.chain c.args.kind
          (length c.args.g.now.state.table - 1)
          n.not-ObjRef n.not-Struct n.not-Union n.not-Enum n.not-Sequence n.not-Array n.not-Alias n.not-Except
          c.args.g.now.state c.args.g.now.at,
      c.aligned.ensures.value,
    )
    refl

pub layer_at-returns-in_default : goal.layer_at-returns-in_default
layer_at-returns-in_default t c =
    let n = c.in_default in
    rw
    (enclosed-on (edges c.args.levels) c.args.at.mode c.args.at.chain c.args.kind n.not-Null n.not-Void n.not-Short
    n.not-Long n.not-UShort n.not-ULong n.not-Boolean n.not-Char n.not-Octet n.not-AnyCode n.not-Code n.not-LongLong
    n.not-ULongLong n.not-Str c.args.g.now.state c.args.g.now.at)
    c.within_at.ensures

-- ---- edges and nodes

pub edge_at-returns-then-levels-eq0 : goal.edge_at-returns-then-levels-eq0
edge_at-returns-then-levels-eq0 t c = rw c.if-levels-eq0.true (c.too_deep.ensures c.args.at.chain)

pub edge_at-returns-in_err-kind : goal.edge_at-returns-in_err-kind
edge_at-returns-in_err-kind t c =
    let p = err_from_is_err_and c.from_residual.result c.from_residual.ensures.1 in
    rw (p.1, p.2)
    (edge-fails c.args.levels c.args.at.mode c.args.at.chain c.args.g.now.state c.args.g.now.at c.if-levels-eq0.false _
    c.in_err-kind.ensures.passes)

pub edge_at-returns-in-Some : goal.edge_at-returns-in-Some
edge_at-returns-in-Some t c =
    let passes = rw c.in-Some.is at c.in_ok-kind.ensures.passes in
    let node = rw passes.1 at c.node_at.ensures in
    rw
    (edge-node c.args.levels c.args.at.mode c.args.at.chain c.args.g.now.state c.args.g.now.at c.if-levels-eq0.false
    c.in-Some.kind c.kind.new.self.at c.aligned-place.result c.aligned-place.ensures.inside passes.0
    c.in_ok-kind.ensures.place (sym c.aligned-place.ensures.value))
    node

pub edge_at-returns-in-None : goal.edge_at-returns-in-None
edge_at-returns-in-None t c =
    let passes = rw c.in-None.is at c.in_ok-kind.ensures.passes in
    let led = rw passes.1 at c.led_to.ensures in
    rw
    (edge-led c.args.levels c.args.at.mode c.args.at.chain c.args.g.now.state c.args.g.now.at c.if-levels-eq0.false
    c.kind.new.self.at passes.0)
    led

pub node_at-fill-requires : goal.node_at-fill-requires
node_at-fill-requires t c =
    let begun = c.in_ok-number.ensures in
    let s = c.args.g.now.state in
    let a = c.args.g.now.at in
    let here = rw (ap (λ (g : GraphAt). g.at) begun.2) at c.in_ok-layer.ensures in
    rw begun.1
    (node-there (edges c.args.levels) c.args.at.mode c.args.at.chain c.args.kind s c.begin.new.self.state
    c.layer_at.new.g.state a c.layer_at.new.g.at (s.base + (c.args.place - a.origin)) _ c.reader-here.ensures.inside
    (ap (λ (g : GraphAt). g.state) begun.2) here)

pub node_at-returns-in_err-number : goal.node_at-returns-in_err-number
node_at-returns-in_err-number t c =
    let p = err_from_is_err_and c.from_residual.result c.from_residual.ensures.1 in
    rw (p.1, p.2)
    (node-crowded (edges c.args.levels) c.args.at.mode c.args.at.chain c.args.kind c.args.place c.args.g.now.state
    c.args.g.now.at _ c.in_err-number.ensures)

pub node_at-returns-in_err-layer : goal.node_at-returns-in_err-layer
node_at-returns-in_err-layer t c =
    let p = err_from_is_err_and c.from_residual-in_err-layer.result c.from_residual-in_err-layer.ensures.1 in
    let begun = c.in_ok-number.ensures in
    rw (p.1, p.2)
    (node-fails (edges c.args.levels) c.args.at.mode c.args.at.chain c.args.kind c.args.place c.args.g.now.state
    c.begin.new.self.state c.args.g.now.at c.begin.new.self.at _ begun.0 (ap (λ (g : GraphAt). g.state) begun.2)
    (ap (λ (g : GraphAt). g.at) begun.2) c.in_err-layer.ensures)

pub node_at-returns : goal.node_at-returns
node_at-returns t c =
    let begun = c.in_ok-number.ensures in
    rw (c.fill.ensures, begun.1)
    (node-on (edges c.args.levels) c.args.at.mode c.args.at.chain c.args.kind c.args.place c.args.g.now.state
    c.begin.new.self.state c.layer_at.new.g.state c.args.g.now.at c.begin.new.self.at c.layer_at.new.g.at _ begun.0
    (ap (λ (g : GraphAt). g.state) begun.2) (ap (λ (g : GraphAt). g.at) begun.2) c.in_ok-layer.ensures)

pub members_at-returns-in_err-count : goal.members_at-returns-in_err-count
members_at-returns-in_err-count t c =
    let p = err_from_is_err_and c.from_residual.result c.from_residual.ensures.1 in
    rw (p.1, p.2)
    (sequence-fails (member_node (edges c.args.levels)) c.args.g.now.state c.args.g.now.at _
    c.in_err-count.ensures.passes)

pub members_at-returns : goal.members_at-returns
members_at-returns t c =
    let passes = c.in_ok-count.ensures.passes in
    let items = rw passes.1 at c.members_of.ensures in
    rw
    (sequence-on (member_node (edges c.args.levels)) c.args.g.now.state c.args.g.now.at c.ulong.new.self.at
    c.in_ok-count.count passes.0)
    items

-- ---- where a part behind another is refused

pub alias_at-returns-in_err-item : goal.alias_at-returns-in_err-item
alias_at-returns-in_err-item t c =
    let p = err_from_is_err_and c.from_residual-in_err-item.result c.from_residual-in_err-item.ensures.1 in
    let same = rw c.count.ensures.value at c.chain_start.ensures in
    let item = rw c.under.ensures at c.in_err-item.ensures in
    rw (p.1, p.2)
    (alias-fails (edges c.args.levels) c.args.at.mode c.args.at.chain (length c.args.g.now.state.table - 1)
    (Some c.chain_start.result) c.args.g.now.state c.header.new.self.state c.args.g.now.at c.header.new.self.at
    (c.in_ok-id.id, c.in_ok-id.name) _ same c.in_ok-id.ensures item)

pub union_at-returns-in_err-choices : goal.union_at-returns-in_err-choices
union_at-returns-in_err-choices t c =
    let p = err_from_is_err_and c.from_residual-in_err-choices.result c.from_residual-in_err-choices.ensures.1 in
    rw (p.1, p.2)
    (union-fails (edges c.args.levels) c.args.g.now.state c.front_at.new.g.state c.args.g.now.at c.front_at.new.g.at
    c.in_ok-header.header c.in_ok-header.switch (length c.front_at.new.g.state.table + 1)
    c.discriminator-labels.result _ refl c.discriminator-labels.ensures c.in_ok-header.ensures
    c.in_err-choices.ensures.read)

pub choices_at-returns-in_err-head-clause-read : goal.choices_at-returns-in_err-head-clause-read
choices_at-returns-in_err-head-clause-read t c =
    let p = err_from_is_err_and c.from_residual.result c.from_residual.ensures.1 in
    rw (p.1, p.2)
    (arms-cut (edges c.args.levels) (discriminator_label c.args.labels) c.args.g.now.state c.args.g.now.at _
    c.in_err-head.ensures.passes)

pub choices_at-returns-in_err-arms-clause-read : goal.choices_at-returns-in_err-arms-clause-read
choices_at-returns-in_err-arms-clause-read t c =
    let p = err_from_is_err_and c.from_residual-in_err-arms.result c.from_residual-in_err-arms.ensures.1 in
    rw (p.1, p.2)
    (arms-fail (edges c.args.levels) (discriminator_label c.args.labels) c.args.g.now.state c.head.new.self.state
    c.args.g.now.at c.head.new.self.at c.in_ok-head.head _ c.in_ok-head.ensures.passes.0 c.in_ok-head.ensures.passes.1
    c.in_err-arms.ensures)

pub within_at-returns-in_err-inner : goal.within_at-returns-in_err-inner
within_at-returns-in_err-inner t c =
    let p = err_from_is_err_and c.from_residual.result c.from_residual.ensures.1 in
    rw (p.1, p.2)
    (none-within (enclosed_layer (edges c.args.levels) c.args.at.mode c.args.at.chain
    (length c.args.g.now.state.table - 1) c.args.kind) c.args.g.now.state c.args.g.now.at _ c.in_err-inner.ensures)

pub within_at-returns-in_err-layer : goal.within_at-returns-in_err-layer
within_at-returns-in_err-layer t c =
    let p = err_from_is_err_and c.from_residual-in_err-layer.result c.from_residual-in_err-layer.ensures.1 in
    rw (p.1, p.2)
    (within-fails (edges c.args.levels) c.args.at.mode c.args.at.chain c.args.kind c.args.g.now.state
    c.in_ok-inner.inner.state c.args.g.now.at c.in_ok-inner.inner.at c.enter.new.self.at _ c.in_ok-inner.ensures.0
    c.in_ok-inner.ensures.1 c.in_err-layer.ensures)

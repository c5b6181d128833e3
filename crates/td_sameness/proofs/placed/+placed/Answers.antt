use Rattle.std.proofs.Common.{◌<◌, length, sym, ◌∙◌, arith}
use Rattle.td_typecode.specs.Same.{member_entry, arm_entry}
use Rattle.td_typecode.proofs.OfPlainKind.{plain-else}
use Rattle.td_sameness.proofs.PlainKinds.{plain-placed, graph-placed}
use Rattle.td_sameness.proofs.Along.{along-lengths, along-end, along-fails, along-next}
use Rattle.td_sameness.proofs.placed.+placed.Goals as goal

pub members_along-returns-then-members-edges : goal.members_along-returns-then-members-edges
members_along-returns-then-members-edges t c =
    sym (along-lengths member_entry c.args.graph.now c.args.members.now c.args.edges.now c.if-members-edges.true)

pub members_along-returns-then-not-member_at : goal.members_along-returns-then-not-member_at
members_along-returns-then-not-member_at t c =
    let low : c.loop-i.i < length c.args.edges.now = omega (arith, c.loop-i-test.true, c.loop-i.invariant.long) in
    along-fails member_entry c.args.graph.now c.loop-i.i c.args.members.now c.args.edges.now
    c.index-members-i.result c.loop-i-test.true low c.index-members-i.is
    c.if-not-member_at.ensures
    ∙ c.loop-i.invariant.so_far

pub members_along-loop-i-preserved : goal.members_along-loop-i-preserved
members_along-loop-i-preserved t c =
    let low : c.loop-i.i < length c.args.edges.now = omega (arith, c.loop-i-test.true, c.loop-i.invariant.long) in
    record {
      long = c.loop-i.invariant.long;
      so_far =
          along-next member_entry c.args.graph.now c.loop-i.i c.args.members.now c.args.edges.now
          c.index-members-i.result c.loop-i-test.true low c.index-members-i.is c.if-not-member_at.ensures
          ∙ c.loop-i.invariant.so_far;
    }

pub members_along-returns : goal.members_along-returns
members_along-returns t c =
    sym (along-end member_entry c.args.graph.now c.loop-i.i c.args.members.now c.args.edges.now
    c.loop-i.invariant.long c.loop-i-test.false)
    ∙ c.loop-i.invariant.so_far

pub arms_along-returns-then-arms-edges : goal.arms_along-returns-then-arms-edges
arms_along-returns-then-arms-edges t c =
    sym (along-lengths arm_entry c.args.graph.now c.args.arms.now c.args.edges.now c.if-arms-edges.true)

pub arms_along-returns-then-not-arm_at : goal.arms_along-returns-then-not-arm_at
arms_along-returns-then-not-arm_at t c =
    let low : c.loop-i.i < length c.args.edges.now = omega (arith, c.loop-i-test.true, c.loop-i.invariant.long) in
    along-fails arm_entry c.args.graph.now c.loop-i.i c.args.arms.now c.args.edges.now c.index-arms-i.result c.loop-i-test.true low c.index-arms-i.is c.if-not-arm_at.ensures
    ∙ c.loop-i.invariant.so_far

pub arms_along-loop-i-preserved : goal.arms_along-loop-i-preserved
arms_along-loop-i-preserved t c =
    let low : c.loop-i.i < length c.args.edges.now = omega (arith, c.loop-i-test.true, c.loop-i.invariant.long) in
    record {
      long = c.loop-i.invariant.long;
      so_far =
          along-next arm_entry c.args.graph.now c.loop-i.i c.args.arms.now c.args.edges.now c.index-arms-i.result c.loop-i-test.true low c.index-arms-i.is c.if-not-arm_at.ensures
          ∙ c.loop-i.invariant.so_far;
    }

pub arms_along-returns : goal.arms_along-returns
arms_along-returns t c =
    sym (along-end arm_entry c.args.graph.now c.loop-i.i c.args.arms.now c.args.edges.now c.loop-i.invariant.long
    c.loop-i-test.false)
    ∙ c.loop-i.invariant.so_far

pub same_at-returns-in_default : goal.same_at-returns-in_default
same_at-returns-in_default t c =
    let n = c.in_default in
    let plain =
    plain-else c.args.code.now n.not-Str n.not-ObjRef n.not-Struct n.not-Union n.not-Enum n.not-Sequence n.not-Array
    n.not-Alias n.not-Except n.not-Linked in
    rw (c.is_plain.ensures, c.kind_of.ensures, c.bare_node-node.ensures.value)
    (sym (plain-placed c.args.graph.now _ c.args.code.now plain))

pub same_at-returns-in-Linked : goal.same_at-returns-in-Linked
same_at-returns-in-Linked t c = sym (graph-placed c.args.graph.now _ c.args.code.now _ c.in-Linked.is)

use Rattle.std.proofs.Common.{◌<◌, length, sym, ap, ◌∙◌, arith}
use Rattle.td_typecode.specs.Same.{member_entry, arm_entry, like, shape}
use Rattle.td_typecode.proofs.OfPlainKind.{plain-else}
use Rattle.td_sameness.proofs.PlainKinds.{plain-same, graph-same}
use Rattle.td_sameness.proofs.Alike.{here-long, here-end, here-fails, here-next}
use Rattle.td_sameness.proofs.trees.+same.Goals as goal

pub same_members-returns-then-a-b : goal.same_members-returns-then-a-b
same_members-returns-then-a-b t c = sym (here-long member_entry c.args.a.now c.args.b.now c.if-a-b.true)

pub same_members-returns-then-not-same_member : goal.same_members-returns-then-not-same_member
same_members-returns-then-not-same_member t c =
    let low : c.loop-i.i < length c.args.b.now = omega (arith, c.loop-i-test.true, c.loop-i.invariant.long) in
    here-fails member_entry c.loop-i.i c.args.a.now c.args.b.now c.index-a-i.result c.index-b-i.result
    c.loop-i-test.true low c.index-a-i.is c.index-b-i.is c.if-not-same_member.ensures
    ∙ c.loop-i.invariant.so_far

pub same_members-loop-i-preserved : goal.same_members-loop-i-preserved
same_members-loop-i-preserved t c =
    let low : c.loop-i.i < length c.args.b.now = omega (arith, c.loop-i-test.true, c.loop-i.invariant.long) in
    record {
      long = c.loop-i.invariant.long;
      so_far =
          here-next member_entry c.loop-i.i c.args.a.now c.args.b.now c.index-a-i.result c.index-b-i.result
          c.loop-i-test.true low c.index-a-i.is c.index-b-i.is c.if-not-same_member.ensures
          ∙ c.loop-i.invariant.so_far;
    }

pub same_arms-returns-then-a-b : goal.same_arms-returns-then-a-b
same_arms-returns-then-a-b t c = sym (here-long arm_entry c.args.a.now c.args.b.now c.if-a-b.true)

pub same_arms-returns-then-not-same_arm : goal.same_arms-returns-then-not-same_arm
same_arms-returns-then-not-same_arm t c =
    let low : c.loop-i.i < length c.args.b.now = omega (arith, c.loop-i-test.true, c.loop-i.invariant.long) in
    here-fails arm_entry c.loop-i.i c.args.a.now c.args.b.now c.index-a-i.result c.index-b-i.result c.loop-i-test.true
    low c.index-a-i.is c.index-b-i.is c.if-not-same_arm.ensures
    ∙ c.loop-i.invariant.so_far

pub same_arms-loop-i-preserved : goal.same_arms-loop-i-preserved
same_arms-loop-i-preserved t c =
    let low : c.loop-i.i < length c.args.b.now = omega (arith, c.loop-i-test.true, c.loop-i.invariant.long) in
    record {
      long = c.loop-i.invariant.long;
      so_far =
          here-next arm_entry c.loop-i.i c.args.a.now c.args.b.now c.index-a-i.result c.index-b-i.result
          c.loop-i-test.true low c.index-a-i.is c.index-b-i.is c.if-not-same_arm.ensures
          ∙ c.loop-i.invariant.so_far;
    }

pub same_members-returns : goal.same_members-returns
same_members-returns t c =
    sym (here-end member_entry c.loop-i.i c.args.a.now c.args.b.now c.loop-i.invariant.long c.loop-i-test.false)
    ∙ c.loop-i.invariant.so_far

pub same_arms-returns : goal.same_arms-returns
same_arms-returns t c =
    sym (here-end arm_entry c.loop-i.i c.args.a.now c.args.b.now c.loop-i.invariant.long c.loop-i-test.false)
    ∙ c.loop-i.invariant.so_far

pub same_trees-returns-in_default : goal.same_trees-returns-in_default
same_trees-returns-in_default t c =
    let n = c.in_default in
    let plain = plain-else c.args.a.now n.not-Str n.not-ObjRef n.not-Struct n.not-Union n.not-Enum n.not-Sequence
    n.not-Array n.not-Alias n.not-Except n.not-Linked in
    rw (c.number.ensures, c.kind_number.ensures, c.kind_of.ensures)
    (plain-same c.args.a.now c.bare-b.result.now plain c.bare-b.ensures.bare
    ∙ ap (like (shape c.args.a.now)) c.bare-b.ensures.same)

pub same_trees-returns-in-Linked : goal.same_trees-returns-in-Linked
same_trees-returns-in-Linked t c = sym (graph-same c.args.a.now c.args.b.now _ c.in-Linked.is)

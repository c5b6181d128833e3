use Rattle.std.proofs.Common.{arith, refl}
use Rattle.td_wire.proofs.Steps.{written_more}
use Rattle.td_call.proofs.Moving.{sends_more, sends_none}
use Rattle.td_call.proofs.sending.write_all.Goals as goal

pub loop-rest-init : goal.loop-rest-init
loop-rest-init g c = record {
  same = g.met.L.Wire.same_self _;
  whole = refl;
  sent = sends_none _ _;
  later = omega arith;
}

pub loop-rest-preserved : goal.loop-rest-preserved
loop-rest-preserved g c = record {
  same = g.met.L.Wire.same_on _ _ _ c.loop-rest.invariant.same c.write.ensures.same;
  whole =
      written_more (g.L.Wire.content c.loop-rest.wire) (g.L.Wire.content c.write.new.self) _ c.loop-rest.rest.now _
      c.in_ok-size.size c.split_at.ensures.back c.in_ok-size.ensures.bytes.ok c.loop-rest.invariant.whole;
  sent =
      sends_more c.args.piece.now c.loop-rest.rest.now _ c.in_ok-size.size (g.L.Wire.content c.args.wire.now)
      (g.L.Wire.content c.loop-rest.wire) (g.L.Wire.content c.write.new.self) c.loop-rest.invariant.sent
      c.split_at.ensures.back c.in_ok-size.ensures.bytes.ok;
  later =
      let first = c.loop-rest.invariant.later in
      let second = c.write.ensures.cause.later in omega (arith, first, second);
}

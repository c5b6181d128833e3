use Rattle.std.proofs.Common.{arith}
use Rattle.td_call.proofs.Holding.{brought_piece}
use Rattle.td_call.proofs.fetching.take_piece.Goals as goal

pub returns-in-Ok-feed-clause-tries : goal.returns-in-Ok-feed-clause-tries
returns-in-Ok-feed-clause-tries g c =
    let some = c.in-Ok.count-test.1 in
    brought_piece _ _ _ _ (g.L.Wire.faults c.args.wire.now) (g.L.Wire.faults c.read.new.self) c.read.new.into
    c.in-Ok.count c.in-Ok.ensures.bytes.ok c.in-Ok.ensures.bytes.bound (omega (arith, c.read.auto.into))
    (omega (arith, some))
    c.in-Ok-feed.ensures.ok

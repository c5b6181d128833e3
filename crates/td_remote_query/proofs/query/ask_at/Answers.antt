use Rattle.std.proofs.Common.{Ok, Err}
use Rattle.td_remote_query.specs.Writing.{once}
use Rattle.td_remote_query.proofs.Answering.{asks_all, asks_there}
use Rattle.td_remote_query.proofs.Writing.{disconnected_twice, leaves_there}
use Rattle.td_remote_query.proofs.query.ask_at.Goals as goal

pub drain_there-requires : goal.drain_there-requires
drain_there-requires g c =
    record { grows = rw c.in-Ok-Elsewhere.field-0-is at c.in-Ok-Elsewhere.ensures.fit }

pub returns-in-Err-clause-asks : goal.returns-in-Err-clause-asks
returns-in-Err-clause-asks g c =
    asks_all c.args.trader.now c.args.call.now (g.L.Wire.content c.args.wire.now) (g.L.Wire.content c.ask_first.new.wire)
    (g.L.Wire.faults c.args.wire.now) (g.L.Wire.faults c.ask_first.new.wire) (Err c.in-Err.fault)
    c.in-Err.ensures.finds c.in-Err.ensures.queried

pub returns-in-Ok-All-clause-asks : goal.returns-in-Ok-All-clause-asks
returns-in-Ok-All-clause-asks g c =
    asks_all c.args.trader.now c.args.call.now (g.L.Wire.content c.args.wire.now) (g.L.Wire.content c.ask_first.new.wire)
    (g.L.Wire.faults c.args.wire.now) (g.L.Wire.faults c.ask_first.new.wire) (Ok c.in-Ok-All.gathered)
    (rw c.in-Ok-All.field-0-is at c.in-Ok-All.ensures.finds)
    (rw c.in-Ok-All.field-0-is at c.in-Ok-All.ensures.queried)

pub returns-in-Ok-Elsewhere-clause-asks : goal.returns-in-Ok-Elsewhere-clause-asks
returns-in-Ok-Elsewhere-clause-asks g c =
    asks_there c.args.trader.now c.args.call.now (g.L.Wire.content c.args.wire.now) (g.L.Wire.content c.ask_first.new.wire)
    (g.L.Wire.content c.drain_there.new.wire) c.in-Ok-Elsewhere.profile c.in-Ok-Elsewhere.found
    (g.L.Wire.faults c.args.wire.now) (g.L.Wire.faults c.ask_first.new.wire) (g.L.Wire.faults c.drain_there.new.wire)
    c.drain_there.result c.in-Ok-Elsewhere.ensures.later
    (rw c.in-Ok-Elsewhere.field-0-is at c.in-Ok-Elsewhere.ensures.finds)
    (rw c.in-Ok-Elsewhere.field-0-is at c.in-Ok-Elsewhere.ensures.queried)
    c.drain_there.ensures.ends c.drain_there.ensures.drained

pub returns-in-Err-clause-leaves : goal.returns-in-Err-clause-leaves
returns-in-Err-clause-leaves g c = once c.in-Err.ensures.leaves

pub returns-in-Ok-All-clause-leaves : goal.returns-in-Ok-All-clause-leaves
returns-in-Ok-All-clause-leaves g c = once c.in-Ok-All.ensures.leaves

pub returns-in-Ok-Elsewhere-clause-leaves : goal.returns-in-Ok-Elsewhere-clause-leaves
returns-in-Ok-Elsewhere-clause-leaves g c =
    leaves_there c.args.trader.now c.args.call.now (g.L.Wire.content c.args.wire.now) (g.L.Wire.content c.ask_first.new.wire)
    (g.L.Wire.content c.drain_there.new.wire) c.in-Ok-Elsewhere.profile c.in-Ok-Elsewhere.found
    (g.L.Wire.faults c.args.wire.now) (g.L.Wire.faults c.ask_first.new.wire)
    (rw c.in-Ok-Elsewhere.field-0-is at c.in-Ok-Elsewhere.ensures.finds)
    (rw c.in-Ok-Elsewhere.field-0-is at c.in-Ok-Elsewhere.ensures.queried) c.drain_there.ensures.leaves

pub returns-in-Err-clause-disconnected : goal.returns-in-Err-clause-disconnected
returns-in-Err-clause-disconnected g c = c.in-Err.ensures.disconnected

pub returns-in-Ok-All-clause-disconnected : goal.returns-in-Ok-All-clause-disconnected
returns-in-Ok-All-clause-disconnected g c = c.in-Ok-All.ensures.disconnected

pub returns-in-Ok-Elsewhere-clause-disconnected : goal.returns-in-Ok-Elsewhere-clause-disconnected
returns-in-Ok-Elsewhere-clause-disconnected g c =
    disconnected_twice (g.L.Wire.content c.args.wire.now) (g.L.Wire.content c.ask_first.new.wire)
    (g.L.Wire.content c.drain_there.new.wire) c.in-Ok-Elsewhere.ensures.disconnected c.drain_there.ensures.disconnected

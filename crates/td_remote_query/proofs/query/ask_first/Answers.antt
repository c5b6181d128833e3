use Rattle.std.proofs.Common.{sym, true≢false}
use Rattle.td_call.proofs.Moving.{disconnected_ended, disconnected_unconnected}
use Rattle.td_remote_query.specs.Querying.{asked_first, asked_requests}
use Rattle.td_remote_query.specs.Writing.{is_whole}
use Rattle.td_remote_query.proofs.Answering.{all_over, finds_connected, finds_unconnected}
use Rattle.td_remote_query.proofs.Writing.{leaves_front, leaves_unconnected}
use Rattle.td_remote_query.proofs.query.ask_first.Goals as goal

pub returns-in-Err-clause-finds : goal.returns-in-Err-clause-finds
returns-in-Err-clause-finds g c =
    finds_unconnected (asked_first c.args.trader.now c.args.call.now) c.args.trader.now
    (g.L.Wire.content c.args.wire.now) (g.L.Wire.content c.connect.new.wire) (g.L.Wire.faults c.args.wire.now)
    (g.L.Wire.faults c.connect.new.wire) c.in-Err.fault c.in-Err.ensures.connected

pub returns-in-Ok-clause-finds : goal.returns-in-Ok-clause-finds
returns-in-Ok-clause-finds g c =
    finds_connected (asked_first c.args.trader.now c.args.call.now) c.args.trader.now c.in-Ok.framer
    (g.L.Wire.content c.args.wire.now) (g.L.Wire.content c.connect.new.wire) (g.L.Wire.faults c.args.wire.now)
    (g.L.Wire.faults c.connect.new.wire) (g.L.Wire.faults c.finish.new.wire) c.ask_through-answer.result
    c.in-Ok.ensures.connected c.in-Ok.ensures.later
    (rw (sym c.finish.ensures.faults) at c.ask_through-answer.ensures.finds)

pub returns-in-Err-clause-queried : goal.returns-in-Err-clause-queried
returns-in-Err-clause-queried g c = λ e. absurd (true≢false (sym e))

pub returns-in-Ok-clause-queried : goal.returns-in-Ok-clause-queried
returns-in-Ok-clause-queried g c =
    all_over (asked_requests c.args.trader.now c.args.call.now) c.args.trader.now c.in-Ok.framer
    (g.L.Wire.content c.args.wire.now) (g.L.Wire.content c.connect.new.wire) (g.L.Wire.content c.ask_through-answer.new.wire)
    (g.L.Wire.content c.finish.new.wire) (g.L.Wire.faults c.args.wire.now) (g.L.Wire.faults c.connect.new.wire)
    (is_whole c.ask_through-answer.result) c.in-Ok.ensures.connected c.ask_through-answer.ensures.writes
    c.finish.ensures.content

pub returns-in-Err-clause-disconnected : goal.returns-in-Err-clause-disconnected
returns-in-Err-clause-disconnected g c =
    disconnected_unconnected c.args.trader.now (g.L.Wire.content c.args.wire.now) (g.L.Wire.content c.connect.new.wire)
    (g.L.Wire.faults c.args.wire.now) (g.L.Wire.faults c.connect.new.wire) c.in-Err.fault c.in-Err.ensures.connected

pub returns-in-Ok-clause-disconnected : goal.returns-in-Ok-clause-disconnected
returns-in-Ok-clause-disconnected g c =
    disconnected_ended (g.L.Wire.content c.args.wire.now) (g.L.Wire.content c.ask_through-answer.new.wire)
    (g.L.Wire.content c.finish.new.wire) c.finish.ensures.content

pub returns-in-Err-clause-leaves : goal.returns-in-Err-clause-leaves
returns-in-Err-clause-leaves g c =
    leaves_unconnected (asked_requests c.args.trader.now c.args.call.now) c.args.trader.now
    (g.L.Wire.content c.args.wire.now) (g.L.Wire.content c.connect.new.wire) (g.L.Wire.faults c.args.wire.now)
    (g.L.Wire.faults c.connect.new.wire) c.in-Err.fault c.in-Err.ensures.connected

pub returns-in-Ok-clause-leaves : goal.returns-in-Ok-clause-leaves
returns-in-Ok-clause-leaves g c =
    leaves_front (asked_requests c.args.trader.now c.args.call.now) c.args.trader.now c.in-Ok.framer
    (g.L.Wire.content c.args.wire.now) (g.L.Wire.content c.connect.new.wire) (g.L.Wire.content c.ask_through-answer.new.wire)
    (g.L.Wire.content c.finish.new.wire) (g.L.Wire.faults c.args.wire.now) (g.L.Wire.faults c.connect.new.wire)
    (is_whole c.ask_through-answer.result) c.in-Ok.ensures.connected c.ask_through-answer.ensures.writes
    c.finish.ensures.content

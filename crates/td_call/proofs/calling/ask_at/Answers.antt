use Rattle.std.proofs.Common.{sym}
use Rattle.td_call.specs.Readings.{evaluation_in_reply}
use Rattle.td_call.proofs.Concluding.{called_then, unconnected}
use Rattle.td_call.proofs.Moving.{leaves_over, leaves_unconnected}
use Rattle.td_call.proofs.calling.ask_at.Goals as goal

pub returns-in-Err-clause-called : goal.returns-in-Err-clause-called
returns-in-Err-clause-called g c =
    unconnected (evaluation_in_reply c.args.returned.now) c.args.request.now c.args.profile.now
    (g.L.Wire.content c.args.wire.now) (g.L.Wire.content c.connect.new.wire) (g.L.Wire.faults c.args.wire.now)
    (g.L.Wire.faults c.connect.new.wire)
    c.in-Err.fault c.in-Err.ensures.connected

pub returns-in-Ok-clause-called : goal.returns-in-Ok-clause-called
returns-in-Ok-clause-called g c =
    called_then (evaluation_in_reply c.args.returned.now) c.args.request.now c.args.profile.now c.in-Ok.framer
    (g.L.Wire.content c.args.wire.now) (g.L.Wire.content c.connect.new.wire) (g.L.Wire.content c.exchange_evaluation-answer.new.wire)
    (g.L.Wire.content c.finish.new.wire) c.exchange_evaluation-answer.new.framer.rest (g.L.Wire.faults c.args.wire.now)
    (g.L.Wire.faults c.connect.new.wire) (g.L.Wire.faults c.finish.new.wire) c.exchange_evaluation-answer.result
    c.in-Ok.ensures.connected c.in-Ok.ensures.later
    (rw (sym c.finish.ensures.faults) at c.exchange_evaluation-answer.ensures.exchanges) c.finish.ensures.content

pub returns-in-Err-clause-leaves : goal.returns-in-Err-clause-leaves
returns-in-Err-clause-leaves g c =
    leaves_unconnected c.args.request.now c.args.profile.now
    (g.L.Wire.content c.args.wire.now) (g.L.Wire.content c.connect.new.wire) (g.L.Wire.faults c.args.wire.now)
    (g.L.Wire.faults c.connect.new.wire) c.in-Err.fault c.in-Err.ensures.connected

pub returns-in-Ok-clause-leaves : goal.returns-in-Ok-clause-leaves
returns-in-Ok-clause-leaves g c =
    leaves_over c.args.request.now c.args.profile.now c.in-Ok.framer
    (g.L.Wire.content c.args.wire.now) (g.L.Wire.content c.connect.new.wire) (g.L.Wire.content c.exchange_evaluation-answer.new.wire)
    (g.L.Wire.content c.finish.new.wire) (g.L.Wire.faults c.args.wire.now) (g.L.Wire.faults c.connect.new.wire)
    c.in-Ok.ensures.connected c.exchange_evaluation-answer.ensures.moves c.finish.ensures.content

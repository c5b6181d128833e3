use Rattle.std.proofs.Common.{ap, arith, length, sym, true≢false}
use Rattle.td_call.proofs.Moving.{disconnected_ended, disconnected_unconnected}
use Rattle.td_giop.specs.Stream.{Stream}
use Rattle.td_remote_query.specs.Querying.{drained_behind, iterator_requests}
use Rattle.td_remote_query.specs.Writing.{gives_all}
use Rattle.td_remote_query.proofs.Answering.{all_over, ends_connected, ends_unconnected}
use Rattle.td_remote_query.proofs.Writing.{leaves_front, leaves_unconnected}
use Rattle.td_remote_query.proofs.query.drain_there.Goals as goal

pub drain_behind-answer-requires-clause-limit : goal.drain_behind-answer-requires-clause-limit
drain_behind-answer-requires-clause-limit g c = ap (λ (s : Stream). s.limit) c.in-Ok.ensures.connected.0

pub drain_behind-answer-requires-clause-room : goal.drain_behind-answer-requires-clause-room
drain_behind-answer-requires-clause-room g c =
    let place = ap (λ (s : Stream). s.start) c.in-Ok.ensures.connected.0 in
    let rest = ap (λ (s : Stream). length s.rest) c.in-Ok.ensures.connected.0 in omega (arith, place, rest)

pub returns-in-Err-clause-ends : goal.returns-in-Err-clause-ends
returns-in-Err-clause-ends g c =
    ends_unconnected (drained_behind c.args.found) c.args.profile.now (g.L.Wire.content c.args.wire.now)
    (g.L.Wire.content c.connect.new.wire) (g.L.Wire.faults c.args.wire.now) (g.L.Wire.faults c.connect.new.wire)
    c.in-Err.fault c.in-Err.ensures.connected

pub returns-in-Ok-clause-ends : goal.returns-in-Ok-clause-ends
returns-in-Ok-clause-ends g c =
    ends_connected (drained_behind c.args.found) c.args.profile.now c.in-Ok.framer (g.L.Wire.content c.args.wire.now)
    (g.L.Wire.content c.connect.new.wire) (g.L.Wire.faults c.args.wire.now) (g.L.Wire.faults c.connect.new.wire)
    (g.L.Wire.faults c.finish.new.wire) c.drain_behind-answer.result c.in-Ok.ensures.connected c.in-Ok.ensures.later
    (rw (ap (λ (s : Stream). s.rest) c.in-Ok.ensures.connected.0, sym c.finish.ensures.faults)
    at c.drain_behind-answer.ensures.ends)

pub returns-in-Err-clause-drained : goal.returns-in-Err-clause-drained
returns-in-Err-clause-drained g c = λ e. absurd (true≢false (sym e))

pub returns-in-Ok-clause-drained : goal.returns-in-Ok-clause-drained
returns-in-Ok-clause-drained g c =
    all_over (iterator_requests c.args.profile.now (length c.args.found.offers)) c.args.profile.now c.in-Ok.framer
    (g.L.Wire.content c.args.wire.now) (g.L.Wire.content c.connect.new.wire) (g.L.Wire.content c.drain_behind-answer.new.wire)
    (g.L.Wire.content c.finish.new.wire) (g.L.Wire.faults c.args.wire.now) (g.L.Wire.faults c.connect.new.wire)
    (gives_all c.drain_behind-answer.result) c.in-Ok.ensures.connected
    (rw (ap (λ (s : Stream). s.rest) c.in-Ok.ensures.connected.0) at c.drain_behind-answer.ensures.writes)
    c.finish.ensures.content

pub returns-in-Err-clause-disconnected : goal.returns-in-Err-clause-disconnected
returns-in-Err-clause-disconnected g c =
    disconnected_unconnected c.args.profile.now (g.L.Wire.content c.args.wire.now) (g.L.Wire.content c.connect.new.wire)
    (g.L.Wire.faults c.args.wire.now) (g.L.Wire.faults c.connect.new.wire) c.in-Err.fault c.in-Err.ensures.connected

pub returns-in-Ok-clause-disconnected : goal.returns-in-Ok-clause-disconnected
returns-in-Ok-clause-disconnected g c =
    disconnected_ended (g.L.Wire.content c.args.wire.now) (g.L.Wire.content c.drain_behind-answer.new.wire)
    (g.L.Wire.content c.finish.new.wire) c.finish.ensures.content

pub returns-in-Err-clause-leaves : goal.returns-in-Err-clause-leaves
returns-in-Err-clause-leaves g c =
    leaves_unconnected (iterator_requests c.args.profile.now (length c.args.found.offers)) c.args.profile.now
    (g.L.Wire.content c.args.wire.now) (g.L.Wire.content c.connect.new.wire) (g.L.Wire.faults c.args.wire.now)
    (g.L.Wire.faults c.connect.new.wire) c.in-Err.fault c.in-Err.ensures.connected

pub returns-in-Ok-clause-leaves : goal.returns-in-Ok-clause-leaves
returns-in-Ok-clause-leaves g c =
    leaves_front (iterator_requests c.args.profile.now (length c.args.found.offers)) c.args.profile.now c.in-Ok.framer
    (g.L.Wire.content c.args.wire.now) (g.L.Wire.content c.connect.new.wire) (g.L.Wire.content c.drain_behind-answer.new.wire)
    (g.L.Wire.content c.finish.new.wire) (g.L.Wire.faults c.args.wire.now) (g.L.Wire.faults c.connect.new.wire)
    (gives_all c.drain_behind-answer.result) c.in-Ok.ensures.connected
    (rw (ap (λ (s : Stream). s.rest) c.in-Ok.ensures.connected.0) at c.drain_behind-answer.ensures.writes)
    c.finish.ensures.content

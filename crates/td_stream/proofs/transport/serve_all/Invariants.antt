use Rattle.std.proofs.Common.{◌≡◌}
use Rattle.td_stream.specs.Outbound.{outbound}
use Rattle.td_stream.specs.Outside.{outside}
use Rattle.td_stream.specs.Progress.{stand, work}
use Rattle.td_stream.proofs.Leading.{Came}
use Rattle.td_stream.proofs.transport.serve_all.Given as goal

-- the servant and the sink are the same still; and what was done since the stream began
abbrev pub invariant-loop-end : goal.invariant-loop-end
invariant-loop-end g l =
    g.V.Servant.same l.initial.servant l.servant
    × (l.outbox.sink.ghost_name ≡ l.initial.outbox.sink.ghost_name)
    × Came g.V.Servant.serves g.V.Servant.stays l.initial.servant l.servant
    (outside (g.S.Source.left l.initial.source) (g.S.Source.faults l.initial.source)
    (g.K.Sink.written l.initial.outbox.sink.now) (g.K.Sink.faults l.initial.outbox.sink.now))
    (stand (g.S.Source.left l.source) (g.S.Source.faults l.source) l.transport.framer.rest l.transport.taken
    l.transport.requests
    (outbound (g.K.Sink.written l.outbox.sink.now) (g.K.Sink.faults l.outbox.sink.now) l.outbox.held.items
    l.outbox.failed))

abbrev pub decreases-loop-end : goal.decreases-loop-end
decreases-loop-end g l =
    work
    (stand (g.S.Source.left l.source) (g.S.Source.faults l.source) l.transport.framer.rest l.transport.taken
    l.transport.requests
    (outbound (g.K.Sink.written l.outbox.sink.now) (g.K.Sink.faults l.outbox.sink.now) l.outbox.held.items
    l.outbox.failed))

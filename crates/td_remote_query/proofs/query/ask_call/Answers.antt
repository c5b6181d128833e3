use Rattle.td_ior.specs.Profiles.{iiop_of}
use Rattle.td_remote_query.proofs.Answering.{asks_of, unasked}
use Rattle.td_remote_query.proofs.Writing.{leaves_reached, leaves_untouched}
use Rattle.td_remote_query.proofs.query.ask_call.Goals as goal

pub returns-in-Err-clause-asks : goal.returns-in-Err-clause-asks
returns-in-Err-clause-asks g c =
    unasked (iiop_of c.args.target.now) c.args.call.now (g.L.Wire.content c.args.wire.now)
    (g.L.Wire.content c.args.wire.now) (g.L.Wire.faults c.args.wire.now) (g.L.Wire.faults c.args.wire.now)
    c.in-Err.fault c.in-Err.ensures

pub returns-in-Ok-clause-asks : goal.returns-in-Ok-clause-asks
returns-in-Ok-clause-asks g c =
    asks_of (iiop_of c.args.target.now) c.in-Ok.profile c.args.call.now (g.L.Wire.content c.args.wire.now)
    (g.L.Wire.content c.ask_at.new.wire) (g.L.Wire.faults c.args.wire.now) (g.L.Wire.faults c.ask_at.new.wire)
    c.ask_at.result c.in-Ok.ensures c.ask_at.ensures.asks

pub returns-in-Err-clause-leaves : goal.returns-in-Err-clause-leaves
returns-in-Err-clause-leaves g c =
    leaves_untouched c.args.target.now c.args.call.now (g.L.Wire.content c.args.wire.now)

pub returns-in-Ok-clause-leaves : goal.returns-in-Ok-clause-leaves
returns-in-Ok-clause-leaves g c =
    leaves_reached c.args.target.now c.in-Ok.profile c.args.call.now (g.L.Wire.content c.args.wire.now)
    (g.L.Wire.content c.ask_at.new.wire) c.in-Ok.ensures c.ask_at.ensures.leaves

pub returns-in-Err-clause-disconnected : goal.returns-in-Err-clause-disconnected
returns-in-Err-clause-disconnected g c = λ none. none

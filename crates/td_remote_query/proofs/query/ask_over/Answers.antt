use Rattle.std.proofs.Common.{refl, subst}
use Rattle.td_ops.specs.declared.call.Call.TheVariants.{Query as Querying}
use Rattle.td_ior.specs.Profiles.{iiop_of}
use Rattle.td_remote_query.proofs.Answering.{unasked_memory}
use Rattle.td_remote_query.specs.Querying.{AsksBy}
use Rattle.td_remote_query.specs.Writing.{AskLeavesBy, untouched}
use Rattle.td_remote_query.proofs.query.ask_over.Goals as goal

pub returns-in-Err-clause-asks : goal.returns-in-Err-clause-asks
returns-in-Err-clause-asks g c =
    unasked_memory (iiop_of c.args.target.now) (Querying c.args.q.now) (g.L.Wire.content c.args.wire.now)
    (g.L.Wire.content c.args.wire.now) (g.L.Wire.faults c.args.wire.now) (g.L.Wire.faults c.args.wire.now)

pub returns-in-Ok-clause-asks : goal.returns-in-Ok-clause-asks
returns-in-Ok-clause-asks g c =
    subst
    (λ q. AsksBy (iiop_of c.args.target.now) (Querying q) (g.L.Wire.content c.args.wire.now)
    (g.L.Wire.content c.ask_call-answer.new.wire) (g.L.Wire.faults c.args.wire.now)
    (g.L.Wire.faults c.ask_call-answer.new.wire) c.ask_call-answer.result)
    c.in-Ok.ensures c.ask_call-answer.ensures.asks

pub returns-in-Err-clause-leaves : goal.returns-in-Err-clause-leaves
returns-in-Err-clause-leaves g c = untouched refl

pub returns-in-Ok-clause-leaves : goal.returns-in-Ok-clause-leaves
returns-in-Ok-clause-leaves g c =
    subst
    (λ q. AskLeavesBy c.args.target.now (Querying q) (g.L.Wire.content c.args.wire.now)
    (g.L.Wire.content c.ask_call-answer.new.wire))
    c.in-Ok.ensures c.ask_call-answer.ensures.leaves

pub returns-in-Err-clause-disconnected : goal.returns-in-Err-clause-disconnected
returns-in-Err-clause-disconnected g c = λ none. none

use Rattle.std.proofs.Common.{refl}
use Rattle.td_call.specs.Calling.{first_id}
use Rattle.td_call.specs.Moving.{reached, untouched}
use Rattle.td_call.specs.Readings.{evaluation_in_reply}
use Rattle.td_call.specs.Requests.{evaluation_of}
use Rattle.td_call.proofs.Concluding.{called_of, uncalled}
use Rattle.td_call.proofs.Moving.{disconnected_at}
use Rattle.td_call.proofs.calling.evaluate_over.Goals as goal

pub returns-in-Err-clause-called : goal.returns-in-Err-clause-called
returns-in-Err-clause-called g c =
    uncalled (evaluation_in_reply c.args.returned.now)
    (λ p. evaluation_of first_id p c.args.name.now c.args.returned.now c.args.extra.now)
    c.args.evaluator.now (g.L.Wire.content c.args.wire.now) (g.L.Wire.content c.args.wire.now)
    (g.L.Wire.faults c.args.wire.now)
    (g.L.Wire.faults c.args.wire.now) c.in-Err.fault c.in-Err.ensures

pub returns-in-Ok-clause-called : goal.returns-in-Ok-clause-called
returns-in-Ok-clause-called g c =
    called_of (evaluation_in_reply c.args.returned.now)
    (λ p. evaluation_of first_id p c.args.name.now c.args.returned.now c.args.extra.now)
    c.args.evaluator.now c.in-Ok.profile (g.L.Wire.content c.args.wire.now) (g.L.Wire.content c.evaluate_at.new.wire)
    (g.L.Wire.faults c.args.wire.now) (g.L.Wire.faults c.evaluate_at.new.wire) c.evaluate_at.result c.in-Ok.ensures
    c.evaluate_at.ensures.called

pub returns-in-Err-clause-leaves : goal.returns-in-Err-clause-leaves
returns-in-Err-clause-leaves g c = untouched refl

pub returns-in-Ok-clause-leaves : goal.returns-in-Ok-clause-leaves
returns-in-Ok-clause-leaves g c = reached c.in-Ok.profile c.in-Ok.ensures c.evaluate_at.ensures.leaves

pub returns-in-Err-clause-disconnected : goal.returns-in-Err-clause-disconnected
returns-in-Err-clause-disconnected g c = λ none. none

pub returns-in-Ok-clause-disconnected : goal.returns-in-Ok-clause-disconnected
returns-in-Ok-clause-disconnected g c = disconnected_at _ _ _ _ c.evaluate_at.ensures.leaves

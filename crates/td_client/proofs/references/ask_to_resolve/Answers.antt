use Rattle.std.proofs.Common.{IfOk, subst}
use Rattle.td_call.specs.Calling.{first_id}
use Rattle.td_call.specs.Moving.{LeavesTraffic}
use Rattle.td_call.specs.Readings.{AdmitsAnswered}
use Rattle.td_call.specs.Requests.{request_of}
use Rattle.td_client.specs.Meanings.{resolve_call}
use Rattle.td_client.proofs.references.ask_to_resolve.Goals as goal

pub returns-in-Ok-clause-leaves : goal.returns-in-Ok-clause-leaves
returns-in-Ok-clause-leaves g c =
    subst (λ name. LeavesTraffic (λ p. request_of first_id p (resolve_call name)) c.args.register.now
    (g.L.Wire.content c.args.wire.now) (g.L.Wire.content c.call_over-answer.new.wire)) c.in-Ok.ensures
    c.call_over-answer.ensures.leaves

pub returns-in-Err-clause-disconnected : goal.returns-in-Err-clause-disconnected
returns-in-Err-clause-disconnected g c = λ none. none

pub returns-in-Ok-clause-admitted : goal.returns-in-Ok-clause-admitted
returns-in-Ok-clause-admitted g c =
    subst (λ name. IfOk c.call_over-answer.result (λ a. AdmitsAnswered (resolve_call name) a)) c.in-Ok.ensures
    c.call_over-answer.ensures.admitted

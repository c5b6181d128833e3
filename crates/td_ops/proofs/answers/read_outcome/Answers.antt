use Rattle.td_ops.proofs.Heard.{outcome-answered}
use Rattle.td_ops.proofs.answers.read_outcome.Goals as goal

pub returns : goal.returns
returns c =
    let is = rw (c.copied-next.ensures.same, c.operation_in-operation.ensures) at c.in_ok-answer.ensures in
    outcome-answered c.args.call.now c.args.status c.args.body.now c.read_answer.new.r c.in_ok-answer.answer
    c.copied-next.ensures.inside c.copied-next.ensures.octets is

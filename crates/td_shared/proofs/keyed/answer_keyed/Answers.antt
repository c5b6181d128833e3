use Rattle.td_shared.proofs.ForIterators.{request_answered}
use Rattle.td_shared.proofs.keyed.answer_keyed.Goals as goal

pub returns-in-Request-clause-keyed : goal.returns-in-Request-clause-keyed
returns-in-Request-clause-keyed g c =
    let has = rw c.in-Request.is at c.requires.head in
    let is = rw c.in-Request.is at c.requires.call in
    let serves = c.serve_request.ensures.serves in
    request_answered _ _ _ _ _ c.args.message.now c.requires.whole c.args.call.now.trader.now c.args.call.now.number
    serves.0 _ _ _ c.in-Request.request c.args.call.now.to serves.1 has is.0 is.1 serves.2

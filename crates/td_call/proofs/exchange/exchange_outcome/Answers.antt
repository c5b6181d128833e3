use Rattle.std.proofs.Common.{◌∙◌}
use Rattle.td_call.specs.Readings.{outcome_in_reply}
use Rattle.td_call.proofs.Concluding.{exchanged, unfetched}
use Rattle.td_call.proofs.exchange.exchange_outcome.Goals as goal

pub returns-in-Err-clause-exchanges : goal.returns-in-Err-clause-exchanges
returns-in-Err-clause-exchanges g c =
    unfetched (outcome_in_reply c.args.call.now) c.args.id c.args.request.now c.send.new.framer.rest c.args.framer.now
    c.send.new.framer
    (g.L.Wire.content c.args.wire.now) (g.L.Wire.content c.send.new.wire) (g.L.Wire.faults c.args.wire.now)
    (g.L.Wire.faults c.send.new.wire) c.in-Err.fault
    c.in-Err.ensures.fetches

pub returns-in-Ok-clause-exchanges : goal.returns-in-Ok-clause-exchanges
returns-in-Ok-clause-exchanges g c =
    let fetched = c.in-Ok.ensures.fetches in
    exchanged _ _ _ _ _ _ _ _ _ _ c.front_outcome-answer.result fetched.0 fetched.1
    (c.in-Ok.ensures.kept ∙ c.requires.limit)
    c.front_outcome-answer.ensures.reads (rw c.front_outcome-answer.ensures.framer at c.drop_message.ensures.dropped)

use Rattle.td_remote_query.proofs.Batching.{turned, unturned}
use Rattle.td_remote_query.proofs.draining.take_batch.Goals as goal

pub returns-in-Err-clause-turns : goal.returns-in-Err-clause-turns
returns-in-Err-clause-turns g c =
    unturned c.args.profile.now c.args.id c.args.framer.now.rest c.call_iterator.new.framer.rest
    (g.L.Wire.content c.args.wire.now) (g.L.Wire.content c.call_iterator.new.wire) (g.L.Wire.faults c.args.wire.now)
    (g.L.Wire.faults c.call_iterator.new.wire) c.args.gathered.now.items c.args.gathered.now.items c.in-Err.fault
    c.in-Err.ensures.exchanges

pub returns-in-Ok-clause-turns : goal.returns-in-Ok-clause-turns
returns-in-Ok-clause-turns g c =
    turned _ _ _ _ _ _ _ _ _ _ c.in-Ok.answer c.join_answer.result c.in-Ok.ensures.exchanges c.join_answer.ensures.takes

pub returns-in-Err-clause-moves : goal.returns-in-Err-clause-moves
returns-in-Err-clause-moves g c = c.call_iterator.ensures.moves

pub returns-in-Ok-clause-moves : goal.returns-in-Ok-clause-moves
returns-in-Ok-clause-moves g c = c.call_iterator.ensures.moves

use Rattle.td_remote_query.proofs.Batching.{destroyed_so, undestroyed}
use Rattle.td_remote_query.proofs.draining.destroy.Goals as goal

pub returns-in-Err-clause-destroys : goal.returns-in-Err-clause-destroys
returns-in-Err-clause-destroys g c =
    undestroyed c.args.profile.now c.args.id c.args.framer.now.rest c.call_iterator.new.framer.rest
    (g.L.Wire.content c.args.wire.now) (g.L.Wire.content c.call_iterator.new.wire) (g.L.Wire.faults c.args.wire.now)
    (g.L.Wire.faults c.call_iterator.new.wire) c.in-Err.fault c.in-Err.ensures.exchanges

pub returns-in-Ok-clause-destroys : goal.returns-in-Ok-clause-destroys
returns-in-Ok-clause-destroys g c =
    destroyed_so _ _ _ _ _ _ _ _ c.in-Ok.answer c.destroyed.result c.in-Ok.ensures.exchanges c.destroyed.ensures

pub returns-in-Err-clause-moves : goal.returns-in-Err-clause-moves
returns-in-Err-clause-moves g c = c.call_iterator.ensures.moves

pub returns-in-Ok-clause-moves : goal.returns-in-Ok-clause-moves
returns-in-Ok-clause-moves g c = c.call_iterator.ensures.moves

use Rattle.std.proofs.Common.{◌∙◌, arith}
use Rattle.td_remote_query.proofs.Gathering.{came_more, came_none, ends_fault, ends_last, ends_refused}
use Rattle.td_remote_query.proofs.Writing.{writes_last, writes_turn}
use Rattle.td_remote_query.proofs.draining.drain.Goals as goal

pub batches-init : goal.batches-init
batches-init g c = record {
  same = g.met.L.Wire.same_self _;
  limit = c.requires.limit;
  room = c.requires.room;
  fit = c.requires.fit;
  came = came_none _ _ _ _ _ c.requires.few;
}

pub take_batch-requires-clause-few : goal.take_batch-requires-clause-few
take_batch-requires-clause-few g c =
    let few = c.batches.invariant.came.few in
    let most = c.batches.invariant.came.most in omega (arith, few, most)

pub destroy-requires-clause-few : goal.destroy-requires-clause-few
destroy-requires-clause-few g c =
    let few = c.batches.invariant.came.few in
    let most = c.batches.invariant.came.most in omega (arith, few, most)

pub returns-in-Err-clause-drains : goal.returns-in-Err-clause-drains
returns-in-Err-clause-drains g c =
    ends_fault c.args.profile.now c.args.framer.now.rest c.batches.framer.rest c.take_batch.new.framer.rest
    (g.L.Wire.content c.args.wire.now) (g.L.Wire.content c.batches.wire) (g.L.Wire.content c.take_batch.new.wire)
    (g.L.Wire.faults c.args.wire.now) (g.L.Wire.faults c.batches.wire) (g.L.Wire.faults c.take_batch.new.wire)
    c.args.gathered.now.items c.batches.gathered.items c.take_batch.new.gathered.items c.batches.id c.in-Err.fault
    c.batches.invariant.came c.in-Err.ensures.turns

pub returns-in-Ok-Refused-clause-drains : goal.returns-in-Ok-Refused-clause-drains
returns-in-Ok-Refused-clause-drains g c =
    ends_refused _ _ _ c.take_batch.new.framer.rest _ _ (g.L.Wire.content c.take_batch.new.wire) _ _
    (g.L.Wire.faults c.take_batch.new.wire) _ _ c.take_batch.new.gathered.items _ c.in-Ok-Refused.answer
    c.batches.invariant.came (rw c.in-Ok-Refused.field-0-is at c.in-Ok-Refused.ensures.turns)

pub returns-in-Ok-Last-clause-drains : goal.returns-in-Ok-Last-clause-drains
returns-in-Ok-Last-clause-drains g c =
    ends_last _ _ _ c.take_batch.new.framer.rest _ _ (g.L.Wire.content c.take_batch.new.wire) _ _ _
    (g.L.Wire.faults c.take_batch.new.wire) _ _ _ c.take_batch.new.gathered.items _ c.destroy.result
    c.batches.invariant.came c.take_batch.ensures.later
    (rw c.in-Ok-Last.field-0-is at c.in-Ok-Last.ensures.turns) c.destroy.ensures.destroys

pub batches-smaller : goal.batches-smaller
batches-smaller g c =
    let turned = rw c.in-Ok-More.field-0-is at c.in-Ok-More.ensures.turns in
    let some = turned.1.some in let most = turned.1.most in omega (arith, some, most)

pub batches-preserved : goal.batches-preserved
batches-preserved g c = record {
  same = g.met.L.Wire.same_on _ _ _ c.batches.invariant.same c.take_batch.ensures.same;
  limit = c.take_batch.ensures.kept ∙ c.batches.invariant.limit;
  room = c.take_batch.ensures.grows;
  fit = c.in-Ok-More.ensures.fit;
  came =
      came_more _ _ _ c.take_batch.new.framer.rest _ _ _ _ _ _ _ _ c.take_batch.new.gathered.items _
      c.batches.invariant.came c.take_batch.ensures.later
      (rw c.in-Ok-More.field-0-is at c.in-Ok-More.ensures.turns);
}

pub returns-in-Err-clause-writes : goal.returns-in-Err-clause-writes
returns-in-Err-clause-writes g c =
    writes_turn c.args.profile.now c.args.framer.now.rest c.batches.framer.rest (g.L.Wire.content c.args.wire.now)
    (g.L.Wire.content c.batches.wire) (g.L.Wire.content c.take_batch.new.wire) (g.L.Wire.faults c.args.wire.now)
    (g.L.Wire.faults c.batches.wire) c.args.gathered.now.items c.batches.gathered.items c.batches.id
    c.batches.invariant.came c.take_batch.ensures.moves

pub returns-in-Ok-Refused-clause-writes : goal.returns-in-Ok-Refused-clause-writes
returns-in-Ok-Refused-clause-writes g c =
    writes_turn c.args.profile.now c.args.framer.now.rest c.batches.framer.rest (g.L.Wire.content c.args.wire.now)
    (g.L.Wire.content c.batches.wire) (g.L.Wire.content c.take_batch.new.wire) (g.L.Wire.faults c.args.wire.now)
    (g.L.Wire.faults c.batches.wire) c.args.gathered.now.items c.batches.gathered.items c.batches.id
    c.batches.invariant.came c.take_batch.ensures.moves

pub returns-in-Ok-Last-clause-writes : goal.returns-in-Ok-Last-clause-writes
returns-in-Ok-Last-clause-writes g c =
    writes_last c.args.profile.now c.args.framer.now.rest c.batches.framer.rest c.take_batch.new.framer.rest
    (g.L.Wire.content c.args.wire.now) (g.L.Wire.content c.batches.wire) (g.L.Wire.content c.take_batch.new.wire)
    (g.L.Wire.content c.destroy.new.wire) (g.L.Wire.faults c.args.wire.now) (g.L.Wire.faults c.batches.wire)
    (g.L.Wire.faults c.take_batch.new.wire) (g.L.Wire.faults c.destroy.new.wire) c.args.gathered.now.items
    c.batches.gathered.items c.take_batch.new.gathered.items c.batches.id c.destroy.result
    c.batches.invariant.came (rw c.in-Ok-Last.field-0-is at c.in-Ok-Last.ensures.turns) c.destroy.ensures.destroys
    c.destroy.ensures.moves

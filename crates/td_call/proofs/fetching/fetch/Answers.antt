use Rattle.std.proofs.Common.{◌∙◌}
use Rattle.td_call.proofs.Holding.{fetched_bad, grows_kept, limit_kept, held_closer, held_more, none_whole, tried_more}
use Rattle.td_call.proofs.Moving.{draws_last}
use Rattle.td_call.proofs.fetching.fetch.Goals as goal

pub returns-in-Err-clause-fetches : goal.returns-in-Err-clause-fetches
returns-in-Err-clause-fetches g c =
    fetched_bad c.args.framer.now c.loop-wire.framer _ _ (g.L.Wire.faults c.args.wire.now)
    (g.L.Wire.faults c.loop-wire.wire) _ c.loop-wire.invariant.held c.in-Err.ensures.found

pub returns-in-Err-take_piece-clause-grows : goal.returns-in-Err-take_piece-clause-grows
returns-in-Err-take_piece-clause-grows g c =
    grows_kept _ _ _ _ _ _ _ c.loop-wire.invariant.held
    (c.in-Err-take_piece.ensures.kept ∙ c.is_whole.ensures.framer)

pub returns-in-Err-take_piece-clause-kept : goal.returns-in-Err-take_piece-clause-kept
returns-in-Err-take_piece-clause-kept g c =
    limit_kept _ _ _ _ _ _ _ c.loop-wire.invariant.held
    (c.in-Err-take_piece.ensures.kept ∙ c.is_whole.ensures.framer)

pub loop-wire-smaller : goal.loop-wire-smaller
loop-wire-smaller g c =
    held_closer c.args.framer.now c.loop-wire.framer c.take_piece.new.framer _ _ (g.L.Wire.content c.take_piece.new.wire)
    _ _ (g.L.Wire.faults c.take_piece.new.wire) c.loop-wire.invariant.held
    (none_whole c.loop-wire.framer c.in-Ok-false.field-0 c.in-Ok-false.field-0-test c.in-Ok-false.ensures.found)
    (tried_more _ _ _ _ _ (g.L.Wire.faults c.loop-wire.wire) (g.L.Wire.faults c.take_piece.new.wire)
    c.in-Ok-true-take_piece.field-0 c.is_whole.ensures.framer
    c.in-Ok-true-take_piece.field-0-test c.in-Ok-true-take_piece.ensures.tries)

pub loop-wire-preserved : goal.loop-wire-preserved
loop-wire-preserved g c = record {
  same = g.met.L.Wire.same_on _ _ _ c.loop-wire.invariant.same c.take_piece.ensures.same;
  held =
      held_more c.args.framer.now c.loop-wire.framer c.take_piece.new.framer _ _ _ _ _ _ c.loop-wire.invariant.held
      (none_whole c.loop-wire.framer c.in-Ok-false.field-0 c.in-Ok-false.field-0-test c.in-Ok-false.ensures.found)
      c.take_piece.ensures.later
      (tried_more _ _ _ _ _ (g.L.Wire.faults c.loop-wire.wire) (g.L.Wire.faults c.take_piece.new.wire)
      c.in-Ok-true-take_piece.field-0 c.is_whole.ensures.framer
      c.in-Ok-true-take_piece.field-0-test c.in-Ok-true-take_piece.ensures.tries);
}

pub returns-in-Err-take_piece-clause-draws : goal.returns-in-Err-take_piece-clause-draws
returns-in-Err-take_piece-clause-draws g c =
    draws_last c.args.framer.now c.loop-wire.framer (g.L.Wire.content c.args.wire.now) (g.L.Wire.content c.loop-wire.wire)
    (g.L.Wire.content c.take_piece.new.wire) (g.L.Wire.faults c.args.wire.now) (g.L.Wire.faults c.loop-wire.wire)
    c.loop-wire.invariant.held c.take_piece.ensures.draws

pub returns-in-Ok-false-take_piece-clause-draws : goal.returns-in-Ok-false-take_piece-clause-draws
returns-in-Ok-false-take_piece-clause-draws g c =
    draws_last c.args.framer.now c.loop-wire.framer (g.L.Wire.content c.args.wire.now) (g.L.Wire.content c.loop-wire.wire)
    (g.L.Wire.content c.take_piece.new.wire) (g.L.Wire.faults c.args.wire.now) (g.L.Wire.faults c.loop-wire.wire)
    c.loop-wire.invariant.held c.take_piece.ensures.draws

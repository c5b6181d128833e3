use Rattle.std.proofs.Common.{◌∙◌, ap, length, sym}
use Rattle.td_remote_query.specs.Querying.{found_ends, found_requests, left_ends, left_requests}
use Rattle.td_remote_query.specs.Draining.{may_join}
use Rattle.td_remote_query.specs.Writing.{is_whole}
use Rattle.td_remote_query.proofs.Leftover.{finds_same, finds_unclear, joined_ends, unjoined_ends}
use Rattle.td_remote_query.proofs.Writing.{joined_requests, writes_as, writes_none}
use Rattle.td_remote_query.proofs.query.gather_found.Goals as goal

pub gather_more-requires-clause-grows : goal.gather_more-requires-clause-grows
gather_more-requires-clause-grows g c = record {
  joins = ap (may_join 0) (sym c.as_slice.ensures) ∙ sym c.in-Ok-true.ensures ∙ c.in-Ok-true.field-0-test;
  writable = c.requires.writable;
}

pub returns-in-Ok-false-clause-finds : goal.returns-in-Ok-false-clause-finds
returns-in-Ok-false-clause-finds g c =
    finds_unclear (found_ends c.args.trader.now c.args.iterator.now c.args.found) c.args.framer.now.rest
    (g.L.Wire.content c.args.wire.now) (g.L.Wire.faults c.args.wire.now) (g.L.Wire.faults c.args.wire.now)
    (unjoined_ends c.args.trader.now c.args.iterator.now c.args.found
    (ap (may_join 0) (sym c.as_slice.ensures) ∙ sym c.in-Ok-false.ensures ∙ c.in-Ok-false.field-0-test))

pub returns-in-Ok-true-clause-finds : goal.returns-in-Ok-true-clause-finds
returns-in-Ok-true-clause-finds g c =
    finds_same (found_ends c.args.trader.now c.args.iterator.now c.args.found)
    (left_ends c.args.trader.now c.args.iterator.now c.args.found) c.args.framer.now.rest
    (g.L.Wire.content c.args.wire.now) (g.L.Wire.faults c.args.wire.now) (g.L.Wire.faults c.gather_more.new.wire)
    c.gather_more.result
    (joined_ends c.args.trader.now c.args.iterator.now c.args.found
    (ap (may_join 0) (sym c.as_slice.ensures) ∙ sym c.in-Ok-true.ensures ∙ c.in-Ok-true.field-0-test))
    c.gather_more.ensures.finds

pub returns-in-Err-clause-writes : goal.returns-in-Err-clause-writes
returns-in-Err-clause-writes g c =
    writes_none (found_requests c.args.trader.now c.args.iterator.now c.args.found.offers) c.args.framer.now.rest
    (g.L.Wire.content c.args.wire.now)

pub returns-in-Ok-false-clause-writes : goal.returns-in-Ok-false-clause-writes
returns-in-Ok-false-clause-writes g c =
    writes_none (found_requests c.args.trader.now c.args.iterator.now c.args.found.offers) c.args.framer.now.rest
    (g.L.Wire.content c.args.wire.now)

pub returns-in-Ok-true-clause-writes : goal.returns-in-Ok-true-clause-writes
returns-in-Ok-true-clause-writes g c =
    writes_as (found_requests c.args.trader.now c.args.iterator.now c.args.found.offers)
    (left_requests c.args.trader.now c.args.iterator.now (length c.args.found.offers)) c.args.framer.now.rest
    (g.L.Wire.content c.args.wire.now) (g.L.Wire.content c.gather_more.new.wire) (is_whole c.gather_more.result)
    (joined_requests c.args.trader.now c.args.iterator.now c.args.found.offers
    (ap (may_join 0) (sym c.as_slice.ensures) ∙ sym c.in-Ok-true.ensures ∙ c.in-Ok-true.field-0-test))
    c.gather_more.ensures.writes

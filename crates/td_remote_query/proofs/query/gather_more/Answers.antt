use Rattle.std.proofs.Common.{◌∙◌, Some, length, sym}
use Rattle.td_remote_query.specs.Querying.{drain_iterator, left_ends, left_requests, requests_here}
use Rattle.td_remote_query.specs.Writing.{is_whole}
use Rattle.td_remote_query.proofs.Fitness.{joining_fit}
use Rattle.td_remote_query.proofs.Leftover.{finds_no_profile, finds_offers, finds_same, of_nil, of_profile}
use Rattle.td_remote_query.proofs.Writing.{nil_requests, profile_requests, writes_as, writes_none, writes_nothing}
use Rattle.td_remote_query.proofs.query.gather_more.Goals as goal

pub returns-then-is_nil-clause-finds : goal.returns-then-is_nil-clause-finds
returns-then-is_nil-clause-finds g c =
    finds_offers (left_ends c.args.trader.now c.args.iterator.now c.args.found) c.args.framer.now.rest
    (g.L.Wire.content c.args.wire.now) (g.L.Wire.faults c.args.wire.now) (g.L.Wire.faults c.args.wire.now) c.args.found
    (of_nil c.args.trader.now c.args.iterator.now c.args.found (sym c.is_nil.ensures ∙ c.if-is_nil.true))

pub returns-in-Err-clause-finds : goal.returns-in-Err-clause-finds
returns-in-Err-clause-finds g c =
    finds_no_profile c.args.trader.now c.args.iterator.now c.args.found c.args.framer.now.rest
    (g.L.Wire.content c.args.wire.now) (g.L.Wire.faults c.args.wire.now) (g.L.Wire.faults c.args.wire.now)
    c.in-Err.fault (sym c.is_nil.ensures ∙ c.if-is_nil.false) c.in-Err.ensures

pub returns-in-Ok-clause-finds : goal.returns-in-Ok-clause-finds
returns-in-Ok-clause-finds g c =
    finds_same (left_ends c.args.trader.now c.args.iterator.now c.args.found)
    (drain_iterator c.args.trader.now (Some c.in-Ok.profile) c.args.found) c.args.framer.now.rest
    (g.L.Wire.content c.args.wire.now) (g.L.Wire.faults c.args.wire.now) (g.L.Wire.faults c.gather_at.new.wire)
    c.gather_at.result
    (of_profile c.args.trader.now c.args.iterator.now (Some c.in-Ok.profile) c.args.found
    (sym c.is_nil.ensures ∙ c.if-is_nil.false) c.in-Ok.ensures)
    c.gather_at.ensures.finds

pub returns-then-is_nil-clause-writes : goal.returns-then-is_nil-clause-writes
returns-then-is_nil-clause-writes g c =
    writes_nothing (left_requests c.args.trader.now c.args.iterator.now (length c.args.found.offers))
    c.args.framer.now.rest (g.L.Wire.content c.args.wire.now)
    (nil_requests c.args.trader.now c.args.iterator.now (length c.args.found.offers)
    (sym c.is_nil.ensures ∙ c.if-is_nil.true))

pub returns-in-Err-clause-writes : goal.returns-in-Err-clause-writes
returns-in-Err-clause-writes g c =
    writes_none (left_requests c.args.trader.now c.args.iterator.now (length c.args.found.offers))
    c.args.framer.now.rest (g.L.Wire.content c.args.wire.now)

pub returns-in-Ok-clause-writes : goal.returns-in-Ok-clause-writes
returns-in-Ok-clause-writes g c =
    writes_as (left_requests c.args.trader.now c.args.iterator.now (length c.args.found.offers))
    (requests_here c.args.trader.now (Some c.in-Ok.profile) (length c.args.found.offers)) c.args.framer.now.rest
    (g.L.Wire.content c.args.wire.now) (g.L.Wire.content c.gather_at.new.wire) (is_whole c.gather_at.result)
    (profile_requests c.args.trader.now c.args.iterator.now (Some c.in-Ok.profile) (length c.args.found.offers)
    (sym c.is_nil.ensures ∙ c.if-is_nil.false) c.in-Ok.ensures)
    c.gather_at.ensures.writes

pub returns-then-is_nil-clause-fit : goal.returns-then-is_nil-clause-fit
returns-then-is_nil-clause-fit g c =
    joining_fit 0 c.args.found.offers c.requires.grows.joins c.requires.grows.writable

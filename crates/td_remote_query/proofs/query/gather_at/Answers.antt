use Rattle.std.proofs.Common.{◌∙◌, Some, Ok, Err, length, sym, false}
use Rattle.td_remote_query.specs.Querying.{drained_behind, drain_iterator, iterator_requests, requests_here}
use Rattle.td_remote_query.proofs.Leftover.{at_other, at_place, finds_elsewhere, finds_ended}
use Rattle.td_remote_query.specs.Writing.{gives_all}
use Rattle.td_remote_query.proofs.Writing.{other_requests, place_requests, writes_as, writes_nothing}
use Rattle.td_remote_query.proofs.query.gather_at.Goals as goal

pub returns-then-not-is_at-clause-finds : goal.returns-then-not-is_at-clause-finds
returns-then-not-is_at-clause-finds g c =
    finds_elsewhere (drain_iterator c.args.trader.now (Some c.args.profile) c.args.found) c.args.framer.now.rest
    (g.L.Wire.content c.args.wire.now) (g.L.Wire.faults c.args.wire.now) (g.L.Wire.faults c.args.wire.now)
    c.args.profile c.args.found
    (at_other c.args.trader.now c.args.profile c.args.found (sym c.is_at.ensures ∙ c.if-not-is_at.true))

pub returns-in-Err-clause-finds : goal.returns-in-Err-clause-finds
returns-in-Err-clause-finds g c =
    finds_ended (drain_iterator c.args.trader.now (Some c.args.profile) c.args.found) (drained_behind c.args.found)
    c.args.framer.now.rest (g.L.Wire.content c.args.wire.now) (g.L.Wire.faults c.args.wire.now)
    (g.L.Wire.faults c.drain_behind.new.wire) (Err c.in-Err.fault)
    (at_place c.args.trader.now c.args.profile c.args.found (sym c.is_at.ensures ∙ c.if-not-is_at.false))
    c.in-Err.ensures.ends

pub returns-clause-finds : goal.returns-clause-finds
returns-clause-finds g c =
    finds_ended (drain_iterator c.args.trader.now (Some c.args.profile) c.args.found) (drained_behind c.args.found)
    c.args.framer.now.rest (g.L.Wire.content c.args.wire.now) (g.L.Wire.faults c.args.wire.now)
    (g.L.Wire.faults c.drain_behind.new.wire) (Ok c.in-Ok.gathered)
    (at_place c.args.trader.now c.args.profile c.args.found (sym c.is_at.ensures ∙ c.if-not-is_at.false))
    c.in-Ok.ensures.ends

pub returns-then-not-is_at-clause-writes : goal.returns-then-not-is_at-clause-writes
returns-then-not-is_at-clause-writes g c =
    writes_nothing (requests_here c.args.trader.now (Some c.args.profile) (length c.args.found.offers))
    c.args.framer.now.rest (g.L.Wire.content c.args.wire.now)
    (other_requests c.args.trader.now c.args.profile (length c.args.found.offers)
    (sym c.is_at.ensures ∙ c.if-not-is_at.true))

pub returns-in-Err-clause-writes : goal.returns-in-Err-clause-writes
returns-in-Err-clause-writes g c =
    writes_as (requests_here c.args.trader.now (Some c.args.profile) (length c.args.found.offers))
    (iterator_requests c.args.profile (length c.args.found.offers)) c.args.framer.now.rest
    (g.L.Wire.content c.args.wire.now) (g.L.Wire.content c.drain_behind.new.wire) false
    (place_requests c.args.trader.now c.args.profile (length c.args.found.offers)
    (sym c.is_at.ensures ∙ c.if-not-is_at.false))
    c.in-Err.ensures.writes

pub returns-clause-writes : goal.returns-clause-writes
returns-clause-writes g c =
    writes_as (requests_here c.args.trader.now (Some c.args.profile) (length c.args.found.offers))
    (iterator_requests c.args.profile (length c.args.found.offers)) c.args.framer.now.rest
    (g.L.Wire.content c.args.wire.now) (g.L.Wire.content c.drain_behind.new.wire) (gives_all (Ok c.in-Ok.gathered))
    (place_requests c.args.trader.now c.args.profile (length c.args.found.offers)
    (sym c.is_at.ensures ∙ c.if-not-is_at.false))
    c.in-Ok.ensures.writes

use Rattle.std.proofs.Common.{◌∙◌, ap, arith, length, refl, subst, Ok, Err}
use Rattle.td_giop.specs.Stream.{Stream}
use Rattle.td_ops.specs.declared.outcome.Answered.TheVariants.{Done, User, System}
use Rattle.td_remote_query.proofs.Answering.{from_fresh, through_done, through_fault, through_refused}
use Rattle.td_remote_query.specs.Draining.{TellsWritable}
use Rattle.td_remote_query.specs.Writing.{is_whole}
use Rattle.td_remote_query.proofs.Fitness.{content_writable}
use Rattle.td_remote_query.proofs.Writing.{writes_asked, writes_query}
use Rattle.td_remote_query.proofs.query.ask_through.Goals as goal

pub exchange_call-requires-clause-limit : goal.exchange_call-requires-clause-limit
exchange_call-requires-clause-limit g c = ap (λ (s : Stream). s.limit) c.requires

pub exchange_call-requires-clause-room : goal.exchange_call-requires-clause-room
exchange_call-requires-clause-room g c =
    let place = ap (λ (s : Stream). s.start) c.requires in
    let rest = ap (λ (s : Stream). length s.rest) c.requires in omega (arith, place, rest)

pub gather-requires-clause-limit : goal.gather-requires-clause-limit
gather-requires-clause-limit g c = c.exchange_call.ensures.kept ∙ ap (λ (s : Stream). s.limit) c.requires

pub gather-requires-clause-room : goal.gather-requires-clause-room
gather-requires-clause-room g c =
    let grows = c.exchange_call.ensures.grows in
    let place = ap (λ (s : Stream). s.start) c.requires in
    let rest = ap (λ (s : Stream). length s.rest) c.requires in omega (arith, grows, place, rest)

pub gather-requires-clause-writable : goal.gather-requires-clause-writable
gather-requires-clause-writable g c =
    subst TellsWritable c.in-Ok-Done.field-0-is
    (content_writable c.args.call.now (Ok c.in-Ok-Done.field-0) c.in-Ok-Done.ensures.admitted)

pub returns-in-Err-clause-finds : goal.returns-in-Err-clause-finds
returns-in-Err-clause-finds g c =
    through_fault c.args.trader.now c.args.call.now c.exchange_call.new.framer.rest (g.L.Wire.content c.args.wire.now)
    (g.L.Wire.content c.exchange_call.new.wire) (g.L.Wire.faults c.args.wire.now)
    (g.L.Wire.faults c.exchange_call.new.wire)
    c.in-Err.fault
    (from_fresh c.args.trader.now c.args.call.now c.args.framer.now c.exchange_call.new.framer.rest
    (g.L.Wire.content c.args.wire.now) (g.L.Wire.content c.exchange_call.new.wire) (g.L.Wire.faults c.args.wire.now)
    (g.L.Wire.faults c.exchange_call.new.wire) (Err c.in-Err.fault) c.requires c.in-Err.ensures.exchanges)

pub returns-in-Ok-Done-clause-finds : goal.returns-in-Ok-Done-clause-finds
returns-in-Ok-Done-clause-finds g c =
    through_done c.args.trader.now c.args.call.now c.exchange_call.new.framer.rest (g.L.Wire.content c.args.wire.now)
    (g.L.Wire.content c.exchange_call.new.wire) (g.L.Wire.faults c.args.wire.now)
    (g.L.Wire.faults c.exchange_call.new.wire) _ c.in-Ok-Done.reply c.gather.result c.exchange_call.ensures.later
    (from_fresh c.args.trader.now c.args.call.now c.args.framer.now c.exchange_call.new.framer.rest
    (g.L.Wire.content c.args.wire.now) (g.L.Wire.content c.exchange_call.new.wire) (g.L.Wire.faults c.args.wire.now)
    (g.L.Wire.faults c.exchange_call.new.wire) (Ok (Done c.in-Ok-Done.reply)) c.requires
    (rw c.in-Ok-Done.field-0-is at c.in-Ok-Done.ensures.exchanges))
    c.gather.ensures.finds

pub returns-in-Ok-User-clause-finds : goal.returns-in-Ok-User-clause-finds
returns-in-Ok-User-clause-finds g c =
    through_refused c.args.trader.now c.args.call.now c.exchange_call.new.framer.rest (g.L.Wire.content c.args.wire.now)
    (g.L.Wire.content c.exchange_call.new.wire) (g.L.Wire.faults c.args.wire.now)
    (g.L.Wire.faults c.exchange_call.new.wire) (User c.in-Ok-User.id) (λ left. refl)
    (from_fresh c.args.trader.now c.args.call.now c.args.framer.now c.exchange_call.new.framer.rest
    (g.L.Wire.content c.args.wire.now) (g.L.Wire.content c.exchange_call.new.wire) (g.L.Wire.faults c.args.wire.now)
    (g.L.Wire.faults c.exchange_call.new.wire) (Ok (User c.in-Ok-User.id)) c.requires
    (rw c.in-Ok-User.field-0-is at c.in-Ok-User.ensures.exchanges))

pub returns-in-Ok-System-clause-finds : goal.returns-in-Ok-System-clause-finds
returns-in-Ok-System-clause-finds g c =
    let answer = System c.in-Ok-System.id c.in-Ok-System.minor c.in-Ok-System.completion in
    through_refused c.args.trader.now c.args.call.now c.exchange_call.new.framer.rest (g.L.Wire.content c.args.wire.now)
    (g.L.Wire.content c.exchange_call.new.wire) (g.L.Wire.faults c.args.wire.now)
    (g.L.Wire.faults c.exchange_call.new.wire) answer (λ left. refl)
    (from_fresh c.args.trader.now c.args.call.now c.args.framer.now c.exchange_call.new.framer.rest
    (g.L.Wire.content c.args.wire.now) (g.L.Wire.content c.exchange_call.new.wire) (g.L.Wire.faults c.args.wire.now)
    (g.L.Wire.faults c.exchange_call.new.wire) (Ok answer) c.requires
    (rw c.in-Ok-System.field-0-is at c.in-Ok-System.ensures.exchanges))

pub returns-in-Err-clause-writes : goal.returns-in-Err-clause-writes
returns-in-Err-clause-writes g c =
    writes_query c.args.trader.now c.args.call.now (g.L.Wire.content c.args.wire.now) (g.L.Wire.content c.exchange_call.new.wire)
    c.exchange_call.ensures.moves

pub returns-in-Ok-User-clause-writes : goal.returns-in-Ok-User-clause-writes
returns-in-Ok-User-clause-writes g c =
    writes_query c.args.trader.now c.args.call.now (g.L.Wire.content c.args.wire.now) (g.L.Wire.content c.exchange_call.new.wire)
    c.exchange_call.ensures.moves

pub returns-in-Ok-System-clause-writes : goal.returns-in-Ok-System-clause-writes
returns-in-Ok-System-clause-writes g c =
    writes_query c.args.trader.now c.args.call.now (g.L.Wire.content c.args.wire.now) (g.L.Wire.content c.exchange_call.new.wire)
    c.exchange_call.ensures.moves

pub returns-in-Ok-Done-clause-writes : goal.returns-in-Ok-Done-clause-writes
returns-in-Ok-Done-clause-writes g c =
    writes_asked c.args.trader.now c.args.call.now c.exchange_call.new.framer.rest (g.L.Wire.content c.args.wire.now)
    (g.L.Wire.content c.exchange_call.new.wire) (g.L.Wire.content c.gather.new.wire) (g.L.Wire.faults c.args.wire.now)
    (g.L.Wire.faults c.exchange_call.new.wire) c.in-Ok-Done.reply (is_whole c.gather.result)
    (from_fresh c.args.trader.now c.args.call.now c.args.framer.now c.exchange_call.new.framer.rest
    (g.L.Wire.content c.args.wire.now) (g.L.Wire.content c.exchange_call.new.wire) (g.L.Wire.faults c.args.wire.now)
    (g.L.Wire.faults c.exchange_call.new.wire) (Ok (Done c.in-Ok-Done.reply)) c.requires
    (rw c.in-Ok-Done.field-0-is at c.in-Ok-Done.ensures.exchanges))
    c.gather.ensures.writes

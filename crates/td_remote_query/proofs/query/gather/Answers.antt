use Rattle.std.proofs.Common.{subst, sym}
use Rattle.td_ops.specs.declared.outcome.Reply.{Reply}
use Rattle.td_remote_query.specs.Querying.{reply_requests}
use Rattle.td_remote_query.specs.Draining.{HasWritable}
use Rattle.td_remote_query.specs.Writing.{WritesBy, is_whole}
use Rattle.td_remote_query.proofs.Writing.{writes_none}
use Rattle.td_remote_query.proofs.query.gather.Goals as goal

pub gather_found-requires-clause-writable : goal.gather_found-requires-clause-writable
gather_found-requires-clause-writable g c = subst HasWritable c.in-Found.is c.requires.writable

pub returns-in_default-clause-writes : goal.returns-in_default-clause-writes
returns-in_default-clause-writes g c =
    writes_none (reply_requests c.args.trader.now c.args.reply) c.args.framer.now.rest (g.L.Wire.content c.args.wire.now)

pub returns-in-Found-clause-writes : goal.returns-in-Found-clause-writes
returns-in-Found-clause-writes g c =
    subst
    (λ (r : Reply). WritesBy (is_whole c.gather_found.result) (reply_requests c.args.trader.now r) c.args.framer.now.rest
    (g.L.Wire.content c.args.wire.now) (g.L.Wire.content c.gather_found.new.wire))
    (sym c.in-Found.is) c.gather_found.ensures.writes

use Rattle.std.proofs.Common.{[]}
use Rattle.td_stream.specs.OutboundLaws.{puts-then}
use Rattle.td_stream.proofs.outbox.Outbox.put.Goals as goal

pub returns-clause-puts : goal.returns-clause-puts
returns-clause-puts g c =
    rw (c.if-hold.ensures.same, c.if-hold.ensures.failed, c.if-hold.ensures.held) at
    (puts-then [] c.args.reply.now _ _ _ c.send.ensures.sends.puts c.write_on.ensures.puts)

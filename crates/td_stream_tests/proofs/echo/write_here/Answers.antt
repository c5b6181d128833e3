use Rattle.std.proofs.Common.{arith}
use Rattle.td_giop.proofs.Lengths.{locate_reply_written_length}
use Rattle.td_stream_tests.proofs.Echoing.{written}
use Rattle.td_stream_tests.proofs.echo.write_here.Goals as goal

pub seal-requires : goal.seal-requires
seal-requires c =
    written _ _ _ 20 (locate_reply_written_length c.args.reply.now.order c.args.minor c.args.id 1) (omega arith)
    c.in_ok-write_locate_reply.ensures.done.0

use Rattle.std.proofs.Common.{arith}
use Rattle.td_giop.proofs.Lengths.{reply_start_length}
use Rattle.td_stream_tests.proofs.Echoing.{started}
use Rattle.td_stream_tests.proofs.echo.write_echo.Goals as goal

pub seal-requires : goal.seal-requires
seal-requires c =
    started _ _ _ _ _ 24 (reply_start_length c.args.reply.now.order c.args.minor c.args.request.now.id 0) (omega arith)
    c.in_ok-start_reply.ensures.done.0 c.in_ok-append.ensures.done.0

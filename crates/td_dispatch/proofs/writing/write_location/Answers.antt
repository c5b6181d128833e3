use Rattle.std.proofs.Common.{arith}
use Rattle.td_giop.proofs.Lengths.{locate_reply_written_length}
use Rattle.td_dispatch.proofs.Fits.{written_whole, written_long}
use Rattle.td_dispatch.proofs.writing.write_location.Goals as goal

pub unwrap-requires : goal.unwrap-requires
unwrap-requires c =
    written_whole _ _ _ _ _ _ c.restart.ensures c.requires.room
    (omega (arith, locate_reply_written_length c.restart.new.self.order c.args.minor c.args.id c.from-status.result))
    c.write_locate_reply.ensures

pub seal-requires : goal.seal-requires
seal-requires c =
    written_long _ _ _ _ _ c.unwrap.ensures
    (omega (arith, locate_reply_written_length c.restart.new.self.order c.args.minor c.args.id c.from-status.result))
    c.write_locate_reply.ensures

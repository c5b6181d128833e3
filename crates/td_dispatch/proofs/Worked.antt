-- Worked examples.
use Rattle.std.proofs.Common.{refl}
use Rattle.td_giop.specs.Written.{locate_reply_written, reply_start}
use Rattle.td_dispatch.specs.Examples.{WorkedReplies}

pub replies : WorkedReplies
unfolding reply_start locate_reply_written
replies = record {
  nothing = refl;
  truth = refl;
  refused = refl;
  newer = refl;
  unexpected = refl;
  here = refl;
  newer_here = refl;
  unknown = refl;
}

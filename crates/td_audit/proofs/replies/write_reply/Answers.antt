use Rattle.td_audit.proofs.Begun.{header_stays}
use Rattle.td_audit.proofs.replies.write_reply.Goals as goal

pub seal-requires : goal.seal-requires
seal-requires c =
    header_stays _ _ _ c.in_ok-writer.ensures.start c.in_ok-write_outcome.ensures.appends.done

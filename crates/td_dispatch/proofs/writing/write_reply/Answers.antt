use Rattle.std.proofs.Common.{◌≤◌, length, arith}
use Rattle.td_giop.proofs.Lengths.{reply_start_length}
use Rattle.td_dispatch.proofs.Fits.{started_short, started_long, room_kept, room_still, written_whole, not_refused}
use Rattle.td_dispatch.proofs.writing.write_reply.Goals as goal

pub returns-in_err-start_reply-clause-fits : goal.returns-in_err-start_reply-clause-fits
returns-in_err-start_reply-clause-fits c = λ short fits.
    absurd (not_refused _ _ (written_whole _ _ _ _ _ _ c.restart.ensures fits
    (omega (arith, reply_start_length c.restart.new.self.order c.args.to.minor c.args.to.id c.status_of.result))
    c.start_reply.ensures)
    c.in_err-start_reply.was)

pub returns-in_err-write_outcome-clause-room : goal.returns-in_err-write_outcome-clause-room
returns-in_err-write_outcome-clause-room c =
    λ short. room_still _ _ _ _ _ c.restart.ensures c.in_ok-start_reply.ensures.done.2
    (c.write_outcome.ensures.room short)

pub returns-in_err-write_outcome-clause-fits : goal.returns-in_err-write_outcome-clause-fits
returns-in_err-write_outcome-clause-fits c = λ short fits.
    let started = c.in_ok-start_reply.ensures.done in
    let begun : length c.start_reply.new.w.bytes ≤ 24 =
    started_short c.restart.new.self _ _ _ _ _ c.start_reply.new.w.bytes c.restart.ensures started.0 in
    let room : 512 ≤ c.start_reply.new.w.room =
    room_kept c.restart.new.self c.start_reply.new.w _ _ c.restart.ensures started.2 fits in
    absurd (not_refused _ _ (c.write_outcome.ensures.small short (omega arith)) c.in_err-write_outcome.was)

pub seal-requires : goal.seal-requires
seal-requires c =
    started_long _ _ _ _ _ _ _ _ c.in_ok-start_reply.ensures.done.0 c.in_ok-write_outcome.ensures.appends.done

pub returns-clause-room : goal.returns-clause-room
returns-clause-room c = λ short.
    let kept =
    room_still _ _ _ _ _ c.restart.ensures c.in_ok-start_reply.ensures.done.2
    (c.write_outcome.ensures.room short) in
    rw c.seal.ensures kept

use Rattle.std.proofs.Common.{◌≡◌, ◌≤◌, length, ap, arith}
use Rattle.td_cdr.specs.Writing.{Draft}
use Rattle.td_giop.proofs.Lengths.{reply_start_length}
use Rattle.td_name_session.proofs.Fits.{fits_there, head_length, not_refused, room_kept, room_still, started_long}
use Rattle.td_name_session.proofs.Fits.{written_whole}
use Rattle.td_name_session.proofs.writing.write_reply.Goals as goal

pub returns-in_err-start_reply-clause-fits : goal.returns-in_err-start_reply-clause-fits
returns-in_err-start_reply-clause-fits c = λ fits room.
    absurd (not_refused _ _ (written_whole _ _ _ _ _ _ c.restart.ensures room
    (omega (arith, reply_start_length c.restart.new.self.order c.args.to.minor c.args.to.id c.name_status.result))
    c.start_reply.ensures)
    c.in_err-start_reply.was)

pub returns-in_err-write_name_outcome-clause-room : goal.returns-in_err-write_name_outcome-clause-room
returns-in_err-write_name_outcome-clause-room c =
    λ plain. room_still _ _ _ _ _ c.restart.ensures c.in_ok-start_reply.ensures.done.2
    (c.write_name_outcome.ensures.room plain)

pub returns-in_err-write_name_outcome-clause-fits : goal.returns-in_err-write_name_outcome-clause-fits
returns-in_err-write_name_outcome-clause-fits c = λ fits room.
    let started = c.in_ok-start_reply.ensures.done in
    let here : length c.start_reply.new.w.bytes ≡ 24 =
    head_length c.restart.new.self.bytes c.start_reply.new.w.bytes _ _ _ _ (ap (λ (d : Draft). d.bytes) c.restart.ensures)
    started.0 in
    let wide : 1300 ≤ c.start_reply.new.w.room =
    room_kept c.restart.new.self c.start_reply.new.w _ _ c.restart.ensures started.2 room in
    absurd (not_refused _ _ (fits_there c.args.outcome.now c.start_reply.new.w _ fits here wide
    (c.write_name_outcome.ensures.fits fits.plain)) c.in_err-write_name_outcome.was)

pub seal-requires : goal.seal-requires
seal-requires c =
    started_long _ _ _ _ _ _ _ _ c.in_ok-start_reply.ensures.done.0 c.in_ok-write_name_outcome.ensures.appends.done

pub returns-clause-room : goal.returns-clause-room
returns-clause-room c = λ plain.
    let kept =
    room_still _ _ _ _ _ c.restart.ensures c.in_ok-start_reply.ensures.done.2
    (c.write_name_outcome.ensures.room plain) in
    rw c.seal.ensures kept

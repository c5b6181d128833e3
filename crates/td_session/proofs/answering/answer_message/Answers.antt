use Rattle.td_session.specs.Stages.{stage}
use Rattle.td_session.proofs.Messages.{cancel_served, locate_served}
use Rattle.td_session.proofs.answering.answer_message.Goals as goal
use Rattle.td_dispatch.specs.Backends.{scene_of}

pub answer_request-requires-clause-head : goal.answer_request-requires-clause-head
answer_request-requires-clause-head g c = rw c.in-Request.is at c.requires.head

pub returns-in-Locate-clause-ok : goal.returns-in-Locate-clause-ok
returns-in-Locate-clause-ok g c =
    let r = c.room.inside in
    let b = g.B.Backend.seen c.args.backend.now in
    rw (← c.room.view_is)
    (locate_served g.B.Backend.others g.B.Backend.later r.home b.world r.desk c.answer_locate.new.desk b.peers b.words
    (g.J.Journal.entries r.journal) c.args.message.now.bytes.now c.answer_locate.new.replies
    c.answer_locate.ensures.desk c.answer_locate.ensures.located)

pub returns-in-Cancel-clause-ok : goal.returns-in-Cancel-clause-ok
returns-in-Cancel-clause-ok g c =
    let r = c.room-in-Cancel.inside in
    let has = rw c.in-Cancel.is at c.requires.head in
    let s = scene_of (g.B.Backend.seen c.args.backend.now) r.desk in
    rw (← c.room-in-Cancel.view_is)
    (cancel_served g.B.Backend.others g.B.Backend.later (stage r.home s (g.J.Journal.entries r.journal))
    c.args.message.now _ _ c.requires.whole has.0 has.1 c.clear.ensures)

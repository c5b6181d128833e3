use Rattle.std.proofs.Common.{List, [], ◌∷◌, ◌++◌, ap, ◌∙◌}
use Rattle.td_servant.specs.declared.entry.Entry.{Entry}
use Rattle.td_session.proofs.Messages.{request_served}
use Rattle.td_session.proofs.request.answer_request.Goals as goal
use Rattle.td_stream.specs.Heads.{asked_of}

pub returns-clause-ok : goal.returns-clause-ok
returns-clause-ok g c =
    let r = c.room.inside in
    let entry = c.serve_request-entry.result in
    rw (← c.room.view_is)
    (request_served g.B.Backend.others g.B.Backend.later r.home (g.B.Backend.seen c.args.backend.now)
    (g.B.Backend.seen c.serve_request-entry.new.backend) r.desk c.serve_request-entry.new.desk
    (g.J.Journal.entries r.journal) (g.J.Journal.entries c.note.new.self) c.args.message.now
    c.serve_request-entry.new.replies (asked_of c.args.head.now) c.args.head.now.body entry c.requires.whole
    c.requires.head.0 c.requires.head.1 c.serve_request-entry.ensures.served c.serve_request-entry.ensures.no_call
    (c.note.ensures ∙ ap (λ (es : List Entry). es ++ entry ∷ []) c.take_room.ensures.entries)
    c.message_bounds.ensures.octets c.message_bounds.ensures.short)

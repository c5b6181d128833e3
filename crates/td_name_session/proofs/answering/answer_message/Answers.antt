use Rattle.td_name_session.proofs.Messages.{cancel_served, locate_served, request_served}
use Rattle.td_name_session.proofs.answering.answer_message.Goals as goal
use Rattle.td_name_session.specs.Scenes.{scene}
use Rattle.td_name_session.specs.Stages.{stage}
use Rattle.td_stream.specs.Heads.{asked_of}

pub returns-in-Request-clause-ok : goal.returns-in-Request-clause-ok
returns-in-Request-clause-ok g c =
    let has = rw c.in-Request.is at c.requires.head in
    request_served g.N.Names.others c.answer_request.result _ _ c.args.message.now _ (asked_of c.in-Request.request)
    c.in-Request.request.body c.requires.whole has.0 has.1 c.answer_request.ensures.ok

pub returns-in-Locate-clause-ok : goal.returns-in-Locate-clause-ok
returns-in-Locate-clause-ok g c =
    let has = rw c.in-Locate.is at c.requires.head in
    locate_served g.N.Names.others c.answer_locate.result _ _ c.args.message.now _ c.in-Locate.id c.in-Locate.key.now
    c.requires.whole has.0 has.1 c.answer_locate.ensures.ok

pub returns-in-Cancel-clause-ok : goal.returns-in-Cancel-clause-ok
returns-in-Cancel-clause-ok g c =
    let r = c.room.inside in
    let has = rw c.in-Cancel.is at c.requires.head in
    rw (← c.room.view_is)
    (cancel_served g.N.Names.others (stage (scene (g.N.Names.view c.args.names.now) r.iterators) r.journal.items)
    c.args.message.now _ _ c.requires.whole has.0 has.1 c.clear.ensures)

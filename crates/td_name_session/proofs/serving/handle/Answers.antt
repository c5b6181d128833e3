use Rattle.td_name_session.proofs.Replying.{handled, unread_handled}
use Rattle.td_name_session.proofs.serving.handle.Goals as goal
use Rattle.td_name_session.specs.Scenes.{scene}

pub returns-in-Ok-clause-handles : goal.returns-in-Ok-clause-handles
returns-in-Ok-clause-handles g c =
    handled g.N.Names.others c.args.to c.args.head.now.key.now c.args.head.now.operation.now c.args.head.now.body
    (g.N.Names.view c.args.names.now) (g.N.Names.view c.judge.new.names) c.args.iterators.now c.judge.new.iterators
    c.serve_judged.result c.serve_judged.new.w c.in-Ok.judged
    (scene (g.N.Names.view c.serve_judged.new.names) c.serve_judged.new.iterators) c.judge.ensures.iterators
    c.in-Ok.ensures.judged c.serve_judged.ensures.performed

pub returns-in-Err-clause-handles : goal.returns-in-Err-clause-handles
returns-in-Err-clause-handles g c =
    unread_handled g.N.Names.others c.args.to c.args.head.now.key.now c.args.head.now.operation.now
    c.args.head.now.body (g.N.Names.view c.args.names.now) (g.N.Names.view c.judge.new.names) c.args.iterators.now
    c.judge.new.iterators c.no_memory.result c.args.w.now c.judge.ensures.iterators c.in-Err.ensures.unread
    (c.no_memory.ensures.body, c.no_memory.ensures.accepted)

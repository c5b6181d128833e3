use Rattle.td_name_session.proofs.Replying.{handled_header, head_served}
use Rattle.td_name_session.proofs.serving.serve_request.Goals as goal
use Rattle.td_name_session.specs.Scenes.{scene}
use Rattle.td_name_session.specs.Finishing.{chosen}

pub finish_reply-replies-inside-requires-clause-header : goal.finish_reply-replies-inside-requires-clause-header
finish_reply-replies-inside-requires-clause-header g c =
    handled_header g.N.Names.others c.args.to c.args.head.now.key.now c.args.head.now.operation.now c.args.head.now.body
    (scene (g.N.Names.view c.args.names.now) c.args.iterators.now) c.handle-answer.result c.handle-answer.new.w
    (scene (g.N.Names.view c.handle-answer.new.names) c.handle-answer.new.iterators) c.handle-answer.ensures.handles

pub returns-clause-serves : goal.returns-clause-serves
returns-clause-serves g c =
    head_served g.N.Names.others c.args.to c.args.head.now.key.now c.args.head.now.operation.now c.args.head.now.body
    (scene (g.N.Names.view c.args.names.now) c.args.iterators.now) c.handle-answer.result c.handle-answer.new.w
    (scene (g.N.Names.view c.handle-answer.new.names) c.handle-answer.new.iterators)
    (chosen c.finish_reply-replies-inside.result c.finish_reply-replies-inside.new.short c.finish_reply-replies-inside.new.long) c.point_of.result c.handle-answer.ensures.handles
    c.finish_reply-replies-inside.ensures.settles (rw c.point.ensures.point at c.point_of.ensures)

use Rattle.std.proofs.Common.{ap}
use Rattle.td_cdr.specs.Writing.{Draft}
use Rattle.td_name_session.proofs.Fits.{head_length}
use Rattle.td_name_session.proofs.Invoking.{no_memory_invoked}
use Rattle.td_name_session.proofs.serving.begin.Goals as goal
use Rattle.td_name_session.specs.Scenes.{scene}
use Rattle.td_name_session.specs.declared.judging.Judged.TheVariants.{Call}

pub invoke-requires-clause-start : goal.invoke-requires-clause-start
invoke-requires-clause-start g c =
    head_length c.restart.new.self.bytes c.start_reply.new.w.bytes c.restart.new.self.order c.args.to.minor c.args.to.id 0
    (ap (λ (d : Draft). d.bytes) c.restart.ensures) c.in-Ok.ensures.done.0

pub returns-in-Err-clause-performed : goal.returns-in-Err-clause-performed
returns-in-Err-clause-performed g c =
    no_memory_invoked g.N.Names.others c.args.to
    (scene (g.N.Names.view c.args.names.now) c.args.iterators.now) c.no_memory.result c.start_reply.new.w
    (Call c.args.key c.args.call) (c.no_memory.ensures.body, c.no_memory.ensures.accepted)

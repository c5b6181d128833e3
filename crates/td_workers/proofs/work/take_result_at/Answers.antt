use Rattle.std.proofs.Common.{◌<◌, length, arith}
use Rattle.td_workers.proofs.Moving.{each_at, removed_if_ok}
use Rattle.td_workers.proofs.work.take_result_at.Goals as goal

pub finish-requires-clause-came : goal.finish-requires-clause-came
finish-requires-clause-came g c =
    let within : c.args.at < length c.args.working.now.items =
    omega (arith, c.requires.within, c.args.working.now.ok.0) in
    each_at _ (g.H.JobSource.waits c.args.job_source.now) c.args.working.now.items c.args.at c.remove-worker.result c.requires.out
    within c.remove-worker.ensures.value

pub returns-clause-moves : goal.returns-clause-moves
returns-clause-moves g c =
    let within : c.args.at < length c.args.working.now.items =
    omega (arith, c.requires.within, c.args.working.now.ok.0) in
    removed_if_ok g.H.JobSource.ready g.H.JobSource.waits g.H.JobSource.admits g.H.JobSource.closes g.J.Job.does g.J.Job.here g.H.JobSource.parts _
    c.args.job_source.now c.finish.new.job_source c.args.working.now.items c.remove-worker.new.self.items c.args.at
    c.remove-worker.result c.finish.result within (omega (arith, c.requires.within, c.requires.few)) c.remove-worker.ensures.value c.remove-worker.ensures.items
    c.requires.out c.finish.ensures.parted

use Rattle.std.proofs.Common.{length, arith, ap, sym, ◌∙◌}
use Rattle.std.proofs.lemmas.Bool.{true≢false}
use Rattle.td_workers.proofs.Moving.{done_here, placed_started}
use Rattle.td_workers.proofs.work.place.Goals as goal

pub returns-in_default-clause-placed : goal.returns-in_default-clause-placed
returns-in_default-clause-placed g c =
    done_here g.H.JobSource.ready g.H.JobSource.waits g.H.JobSource.admits g.H.JobSource.closes g.J.Job.does g.J.Job.here g.H.JobSource.parts _
    c.args.job_source.now c.part.new.self c.args.working.now.items c.reserve.new.self.items c.args.number c.args.job
    c.work_here.result c.part.result c.reserve.ensures.items
    (λ z. absurd (true≢false (sym c.work_here.ensures.here ∙ z))) c.requires.out c.work_here.ensures.does
    c.part.ensures.ready c.part.ensures.stays c.part.ensures.parts

pub returns-in-Ok-clause-placed : goal.returns-in-Ok-clause-placed
returns-in-Ok-clause-placed g c =
    placed_started g.H.JobSource.ready g.H.JobSource.waits g.H.JobSource.admits g.H.JobSource.closes g.J.Job.does g.J.Job.here g.H.JobSource.parts _
    c.args.job_source.now c.args.working.now.items c.reserve.new.self.items c.push_reserved.new.self.items c.in-Ok.worker
    c.args.number c.args.job c.reserve.ensures.items c.push_reserved.ensures.items c.in-Ok.ensures.ok.0
    c.in-Ok.ensures.ok.1 c.requires.ready c.requires.out c.requires.came

pub returns-in-Err-clause-placed : goal.returns-in-Err-clause-placed
returns-in-Err-clause-placed g c =
    done_here g.H.JobSource.ready g.H.JobSource.waits g.H.JobSource.admits g.H.JobSource.closes g.J.Job.does g.J.Job.here g.H.JobSource.parts _
    c.args.job_source.now c.part-in-Err.new.self c.args.working.now.items c.reserve.new.self.items c.args.number c.args.job
    c.in-Err.made c.part-in-Err.result c.reserve.ensures.items (λ z. omega (arith, c.in-Some.ensures, ap length c.reserve.ensures.items)) c.requires.out c.in-Err.ensures.err
    c.part-in-Err.ensures.ready c.part-in-Err.ensures.stays c.part-in-Err.ensures.parts

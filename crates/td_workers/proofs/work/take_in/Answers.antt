use Rattle.std.proofs.Common.{refl}
use Rattle.td_workers.proofs.Moving.{ready_over, stands_next, stands_over}
use Rattle.td_workers.proofs.work.take_in.Goals as goal

pub returns-in-Ok-None-clause-worked : goal.returns-in-Ok-None-clause-worked
returns-in-Ok-None-clause-worked g c =
    stands_over g.H.JobSource.ready g.H.JobSource.waits g.H.JobSource.admits g.H.JobSource.closes g.J.Job.does g.J.Job.here g.H.JobSource.parts _ _ _ _ _ _ _
    c.join_all.result c.accepting.invariant.2 (rw c.in-Ok-None.field-0-is at c.in-Ok-None.ensures.came)
    c.join_all.ensures.moves

pub returns-in-Ok-None-clause-ready : goal.returns-in-Ok-None-clause-ready
returns-in-Ok-None-clause-ready g c =
    ready_over g.H.JobSource.ready g.H.JobSource.waits g.H.JobSource.admits g.H.JobSource.closes g.J.Job.does g.J.Job.here g.H.JobSource.parts _ _ _
    c.join_all.result c.join_all.ensures.moves

pub accepting-preserved : goal.accepting-preserved
accepting-preserved g c = (
  c.accept_job.ensures.few,
  g.met.H.JobSource.goes_on _ _ _ c.accepting.invariant.1 c.accept_job.ensures.goes,
  stands_next g.H.JobSource.ready g.H.JobSource.waits g.H.JobSource.admits g.H.JobSource.closes g.J.Job.does g.J.Job.here g.H.JobSource.parts _ _ _ _ _ _ _
      c.accepting.invariant.2 refl (rw c.in-Ok-Some.field-0-is at c.in-Ok-Some.ensures.came),
)

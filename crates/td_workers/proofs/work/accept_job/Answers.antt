use Rattle.std.proofs.Common.{refl}
use Rattle.td_workers.proofs.Moving.{each_on}
use Rattle.td_workers.proofs.work.accept_job.Goals as goal

pub assign-requires-clause-out : goal.assign-requires-clause-out
assign-requires-clause-out g c κs within =
    each_on (g.H.JobSource.waits c.args.job_source.now) (g.H.JobSource.waits c.next.new.self) _ c.in-Ok-Some.ensures.stays
    c.requires.out

pub returns-in-Ok-None-clause-came : goal.returns-in-Ok-None-clause-came
returns-in-Ok-None-clause-came g c = record {
  is_closed = rw c.in-Ok-None.field-0-is at c.in-Ok-None.ensures.came;
  ready = c.in-Ok-None.ensures.ready;
  same = refl;
  waits =
      each_on (g.H.JobSource.waits c.args.job_source.now) (g.H.JobSource.waits c.next.new.self) _ c.in-Ok-None.ensures.stays
      c.requires.out;
}

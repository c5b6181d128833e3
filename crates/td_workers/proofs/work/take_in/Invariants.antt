use Rattle.std.proofs.Common.{◌≤◌, vec_len}
use Rattle.td_workers.specs.Jobs.{jobs}
use Rattle.td_workers.proofs.Moving.{Stands}
use Rattle.td_workers.proofs.work.take_in.Given as goal

-- so many jobs have come, and the workers have those that are out
abbrev pub invariant-accepting : goal.invariant-accepting
invariant-accepting g l =
    vec_len l.working ≤ 64 × g.H.JobSource.goes l.fn.job_source l.job_source
    × Stands g.H.JobSource.ready g.H.JobSource.waits g.H.JobSource.admits g.H.JobSource.closes g.J.Job.does g.J.Job.here g.H.JobSource.parts l.fn.job_source l.job_source
    l.count (jobs l.working.items)

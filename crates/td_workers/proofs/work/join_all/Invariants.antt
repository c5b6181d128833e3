use Rattle.std.proofs.Common.{◌≤◌, vec_len}
use Rattle.td_workers.specs.Jobs.{jobs}
use Rattle.td_workers.specs.JobSources.{SourceMoves}
use Rattle.td_workers.proofs.work.join_all.Given as goal

-- some were waited for, and are gone
abbrev pub invariant-joining : goal.invariant-joining
invariant-joining g l =
    vec_len l.working ≤ 64 × g.H.JobSource.goes l.fn.job_source l.job_source
    × SourceMoves g.H.JobSource.ready g.H.JobSource.waits g.H.JobSource.admits g.H.JobSource.closes g.J.Job.does g.J.Job.here g.H.JobSource.parts l.fn.job_source
    (jobs l.fn.working.items) l.job_source (jobs l.working.items)

abbrev pub decreases-joining : goal.decreases-joining
decreases-joining g l = vec_len l.working

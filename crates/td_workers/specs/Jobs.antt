-- The jobs that workers do.
use Rattle.std.specs.Prelude.{ℕ, List, map}
use Rattle.td_workers.specs.declared.worker.Worker.{Worker}

-- those of these workers, each with its number
abbrev pub jobs : {D J : Type 0} → List (Worker D J) → List (ℕ × J)
jobs workers = map (λ w. (w.number, w.handle.promise.job.value)) workers

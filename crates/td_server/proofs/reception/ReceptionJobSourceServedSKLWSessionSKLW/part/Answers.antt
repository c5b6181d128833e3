use Rattle.std.proofs.Common.{[], ◌∷◌, refl}
use Rattle.td_server.proofs.Coming.{goes_out}
use Rattle.td_server.specs.JobSourceLaws.{stays_as}
use Rattle.td_server.proofs.reception.ReceptionJobSourceServedSKLWSessionSKLW.part.Goals as goal

pub returns-in-Ok-clause-parts : goal.returns-in-Ok-clause-parts
returns-in-Ok-clause-parts g c =
    let e = c.in-Ok.ensures in (
      goes_out g.F.Service.kind _ _ _ _ _ _ _ _ _ _ _ _ _ e.handed e.joins (g.met.F.Service.goes_given _ _ e.goes),
      e.ends,
    )

pub returns-in-Ok-clause-goes : goal.returns-in-Ok-clause-goes
returns-in-Ok-clause-goes g c = (
  refl,
  c.in-Ok.ensures.goes,
  refl,
  stays_as _,
  record { sessions = _ ∷ []; handed_on = c.in-Ok.ensures.handed },
)

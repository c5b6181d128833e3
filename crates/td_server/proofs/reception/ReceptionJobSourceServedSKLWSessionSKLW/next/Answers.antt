use Rattle.td_server.proofs.Coming.{comes_in}
use Rattle.td_server.proofs.reception.ReceptionJobSourceServedSKLWSessionSKLW.next.Goals as goal

pub returns-in-Ok-clause-came : goal.returns-in-Ok-clause-came
returns-in-Ok-clause-came g c =
    let b = c.in-Ok.ensures in (
      (
        comes_in g.F.Service.kind _ _ _ _ _ _ _ _ _ _ _ _ _
            (rw c.in-Ok-Some.field-0-is at c.in-Ok-Some.ensures.content.ok) b.gives b.sees
            (g.met.F.Service.goes_given _ _ b.goes) b.content b.seen,
        b.begins,
      ),
      b.waits,
    )

use Rattle.std.proofs.Common.{refl}
use Rattle.td_fed_laws.proofs.Worked.{foreign-remembered, forgotten-fresh, not-farther, not-fresh, not-named, not-once}
use Rattle.td_fed_laws.proofs.Worked.{not-remembered, outside-fresh, ring-fresh, ring-named, ring-once}
use Rattle.td_fed_laws.proofs.Worked.{ring-remembered}
use Rattle.td_fed_laws.proofs.examples.worked_arrivals.Goals as goal

pub returns : goal.returns
returns c = λ v q. record {
  held = refl;
  ring_remembered = ring-remembered v q;
  ring_fresh = ring-fresh v q;
  ring_once = ring-once;
  ring_named = ring-named;
  not_held = refl;
  not_remembered = not-remembered v q;
  forgotten_fresh = forgotten-fresh v q;
  not_farther = not-farther;
  not_once = not-once;
  foreign_remembered = foreign-remembered v q;
  not_fresh = not-fresh v q;
  not_named = not-named;
  outside_fresh = outside-fresh v q;
}

use Rattle.std.proofs.Common.{refl}
use Rattle.td_net_laws.proofs.examples.worked_visits.Goals as goal

pub returns : goal.returns
returns c t = record {
  first = refl;
  second = refl;
  third = refl;
  back = refl;
  other = refl;
  b_first = refl;
  c_second = refl;
  c_first = refl;
  b_second = refl;
  passed = refl;
  sent = refl;
}

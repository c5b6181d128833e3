use Rattle.std.proofs.Common.{refl}
use Rattle.tc_edges.specs.Edges.{spelled_before}
use Rattle.tc_edges.proofs.laws.worked_edges.Goals as goal

pub returns : goal.returns
unfolding spelled_before
returns c = record {
  spelled = refl;
  back = refl;
  first = refl;
  second = refl;
  unrolled_spelled = refl;
  unrolled_back = refl;
}

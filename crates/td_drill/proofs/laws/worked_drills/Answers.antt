use Rattle.std.proofs.Common.{refl}
use Rattle.std.specs.Fmt.{digits}
use Rattle.td_drill.specs.Tallies.{is_repeat, is_search}
use Rattle.td_drill.proofs.laws.worked_drills.Goals as goal

pub returns : goal.returns
unfolding digits is_repeat is_search
returns c = record {
  walk = λ a b. refl;
  twice = refl;
  first = refl;
  line = refl;
}

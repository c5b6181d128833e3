use Rattle.std.proofs.Common.{refl}
use Rattle.tc_graph.specs.Aliases.{bare_within}
use Rattle.td_sameness.proofs.laws.worked_examples.Goals as goal

pub returns : goal.returns
unfolding bare_within
returns c = record {
  unrolled = refl;
  aliases = refl;
  no_id = refl;
  other_id = refl;
  other_member = refl;
  fewer = refl;
  endless = refl;
  labels = refl;
  other_label = refl;
  other_bound = refl;
  names = refl;
  count = refl;
  inside = refl;
}

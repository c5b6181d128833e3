use Rattle.std.proofs.Common.{refl}
use Rattle.td_ior.specs.Number.{number_below}
use Rattle.td_name_command.proofs.laws.worked_words.Goals as goal

pub returns : goal.returns
unfolding number_below
returns c = record {
  command = refl;
  no_host = refl;
  last_port = refl;
  high_port = refl;
  zeros = refl;
  nul = refl;
  no_port = refl;
  more = refl;
  other = refl;
}

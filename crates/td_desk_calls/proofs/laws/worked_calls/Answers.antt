use Rattle.std.proofs.Common.{refl}
use Rattle.td_ior.specs.Keys.{key_of}
use Rattle.td_ior.specs.Number.{number_below}
use Rattle.td_desk_calls.proofs.laws.worked_calls.Goals as goal

pub returns : goal.returns
unfolding key_of number_below
returns c = record {
  key = refl;
  key_of_lookup = refl;
  left = refl;
  next = refl;
  is_one = refl;
  is_other = refl;
  not_gone = refl;
  taken_off = refl;
  spells_none = refl;
  refusal = refl;
  gone_first = refl;
}

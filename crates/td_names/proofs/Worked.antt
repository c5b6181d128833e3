-- Worked examples.
use Rattle.std.proofs.Common.{refl}
use Rattle.std.specs.Fmt.{digits}
use Rattle.td_cdr.specs.Reading.{cell_at, number_at, octets_at, string_at}
use Rattle.td_ior.specs.Number.{number_below}
use Rattle.td_ior.specs.Profiles.{first_iiop}
use Rattle.td_names.specs.Examples.{WorkedCalls, WorkedKeys}

pub calls : WorkedCalls
unfolding digits cell_at number_at octets_at string_at number_below first_iiop
calls = record {
  makes = refl;
  binds = refl;
  resolves = refl;
  missing = refl;
  no_context = refl;
  no_name = refl;
  already = refl;
  root = refl;
  none = refl;
  lists = refl;
  live = refl;
  not_empty = refl;
  dead = refl;
  changes = refl;
}

pub keys : WorkedKeys
unfolding digits cell_at number_at octets_at string_at number_below first_iiop
keys = record { key = refl; number = refl; zero = refl; leads = refl; elsewhere = refl; id = refl }

-- The worked example.
use Rattle.std.proofs.Common.{refl}
use Rattle.std.specs.Fmt.{digits}
use Rattle.td_cdr.specs.Reading.{cell_at, number_at, octets_at, string_at}
use Rattle.td_ior.specs.Number.{number_below}
use Rattle.td_ior.specs.Profiles.{first_iiop}
use Rattle.td_naming.specs.Examples.{WorkedHistory}

pub history : WorkedHistory
unfolding digits cell_at number_at octets_at string_at number_below first_iiop
history = record { history = refl; own = refl; replies = (refl, refl); kept = refl }

-- Where the server is reached.
use Rattle.std.specs.Prelude.{ℕ, nat_lt, Bool, ◌||◌, List, length, Result, Ok}
use Rattle.td_cdr.specs.Reading.{◌>>=◌}
use Rattle.td_cdr.specs.Text.{has_nul}
use Rattle.td_ior.specs.Number.{port_of}
use Rattle.td_lines.specs.Causes.{or_cause, refused_if}
use Rattle.td_lines.specs.declared.cause.LineCause.{LineCause}
use Rattle.td_lines.specs.declared.cause.LineCause.TheVariants as cause
use Rattle.td_lines.specs.declared.entry.Home.{Home}

abbrev pub with_minor : (minor : ℕ) → Home → Home
with_minor minor home = record home { minor = minor }

-- more than 1,000 bytes, or a NUL among them
abbrev pub is_no_host : List ℕ → Bool
is_no_host host = nat_lt 1000 (length host) || has_nul host

-- reached by IIOP 1.0, where no line says otherwise
abbrev pub parse_home : (host port : List ℕ) → Result Home LineCause
parse_home host port =
    refused_if (is_no_host host) cause.Name
    (or_cause cause.Number (port_of port) >>= λ n. Ok (record { host = host; port = n; minor = 0 }))

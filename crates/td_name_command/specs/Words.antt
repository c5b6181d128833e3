-- The words `names HOST PORT`.
use Rattle.std.specs.Prelude.{ℕ, ◌&&◌, nat_le, not, Bool, if◌then◌else◌, List, [], ◌∷◌, length, codes, Option, None}
use Rattle.std.specs.Option.{option_map}
use Rattle.std.specs.Str.{bytes_eq}
use Rattle.td_cdr.specs.Text.{has_nul}
use Rattle.td_ior.specs.Number.{number_below}
use Rattle.td_names.specs.declared.address.Address.{Address}

abbrev pub home : List ℕ → ℕ → Address
home host port = record { host = host; port = port }

-- at most 1,000 bytes, and no NUL
abbrev pub fits_host : List ℕ → Bool
fits_host host = nat_le (length host) 1000 && not (has_nul host)

-- a port is from 0 to 65535, in decimal without leading zeros
abbrev pub home_named : (host port : List ℕ) → Option Address
home_named host port = if fits_host host then option_map (home host)
    (number_below 65536 port) else None

-- where the words let naming contexts be reached; other words are no command
abbrev pub home_of : List (List ℕ) → Option Address
home_of (word ∷ host ∷ port ∷ []) = if bytes_eq word (codes "names")
    then home_named host port else None
home_of other = None

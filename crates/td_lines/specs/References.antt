-- References in a line.
use Rattle.std.specs.Prelude.{ℕ, List, if◌then◌else◌, Option, Some, None, Result, Ok}
use Rattle.td_cdr.specs.Reading.{◌>>=◌}
use Rattle.td_typecode.specs.declared.reference.Ior.{Ior}
use Rattle.td_ior.specs.Nil.{is_nil}
use Rattle.td_ior.specs.Texts.{reference_in}
use Rattle.td_lines.specs.Causes.{or_cause}
use Rattle.td_lines.specs.declared.cause.LineCause.{LineCause}
use Rattle.td_lines.specs.declared.cause.LineCause.TheVariants.{Reference}

abbrev pub parse_reference : List ℕ → Result Ior LineCause
parse_reference word = or_cause Reference (reference_in word)

-- a nil reference is no register
abbrev pub register_of : Ior → Option Ior
register_of r = if is_nil r then None else Some r

abbrev pub parse_register : List ℕ → Result (Option Ior) LineCause
parse_register word = parse_reference word >>= λ r. Ok (register_of r)

-- Octets in hexadecimal digits of either case, two for each.
use Rattle.std.specs.Prelude.{ℕ, nat_eq, not, List, length, Result}
use Rattle.std.specs.Result.{result_ok}
use Rattle.hex.specs.Hex.{decode_of}
use Rattle.td_lines.specs.Causes.{or_cause, refused_if}
use Rattle.td_lines.specs.declared.cause.LineCause.{LineCause}
use Rattle.td_lines.specs.declared.cause.LineCause.TheVariants.{Value}

abbrev pub parse_octets : List ℕ → Result (List ℕ) LineCause
parse_octets digits = or_cause Value (result_ok (decode_of digits))

-- 64 digits
abbrev pub parse_seed : List ℕ → Result (List ℕ) LineCause
parse_seed digits = refused_if (not (nat_eq (length digits) 64)) Value (parse_octets digits)

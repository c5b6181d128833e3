-- The values of a query's options.
use Rattle.std.specs.Prelude.{ℕ, List, Option, Some, None}
use Rattle.std.specs.Result.{result_ok}
use Rattle.hex.specs.Hex.{decode_of}
use Rattle.td_forms.specs.Words.{rule_named}
use Rattle.td_ior.specs.Keys.{◌>>=◌}
use Rattle.td_ior.specs.Number.{number_below}
use Rattle.td_value.specs.declared.enumerations.FollowOption.{FollowOption}

-- ---- the values

-- decimal, and below 2^32
abbrev pub number_in : List ℕ → Option ℕ
number_in word = number_below 4294967296 word

-- hexadecimal digits, two for each octet
abbrev pub octets_in : List ℕ → Option (List ℕ)
octets_in digits = result_ok (decode_of digits)

-- ---- where they are given

abbrev pub number_given : Option (List ℕ) → Option (Option ℕ)
number_given None = Some None
number_given (Some word) = number_in word >>= λ n. Some (Some n)

abbrev pub rule_given : Option (List ℕ) → Option (Option FollowOption)
rule_given None = Some None
rule_given (Some word) = rule_named word >>= λ r. Some (Some r)

abbrev pub octets_given : Option (List ℕ) → Option (Option (List ℕ))
octets_given None = Some None
octets_given (Some digits) = octets_in digits >>= λ o. Some (Some o)

-- 100 where it isn't
abbrev pub how_many_in : Option (List ℕ) → Option ℕ
how_many_in None = Some 100
how_many_in (Some word) = number_in word

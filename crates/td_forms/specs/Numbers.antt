-- Whole numbers in decimal, without leading zeros, and with `-` before a negative one.
use Rattle.std.specs.Prelude.{ℕ, ◌+◌, ◌-◌, nat_eq, ℤ, pos, negsuc, List, take, drop, codes, if◌then◌else◌, Option}
use Rattle.std.specs.Prelude.{Some, None}
use Rattle.std.specs.Str.{bytes_eq}
use Rattle.td_ior.specs.Keys.{◌>>=◌}
use Rattle.td_ior.specs.Number.{number_below}

-- -n; 0 has no sign
abbrev pub minus : ℕ → Option ℤ
minus n = if nat_eq n 0 then None else Some (negsuc (n - 1))

-- the number whose digits these are behind a `-`, from -limit on
abbrev pub negative : (limit : ℕ) → List ℕ → Option ℤ
negative limit digits = number_below (limit + 1) digits >>= minus

abbrev pub positive : (limit : ℕ) → List ℕ → Option ℤ
positive limit word = number_below limit word >>= λ n. Some (pos n)

-- the number from -limit to limit - 1 that a word spells
abbrev pub signed_below : (limit : ℕ) → List ℕ → Option ℤ
signed_below limit word =
    if bytes_eq (take 1 word) (codes "-") then negative limit (drop 1 word) else positive limit word

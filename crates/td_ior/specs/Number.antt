-- Numbers in decimal, without leading zeros.
use Rattle.std.specs.Prelude.{◌≡◌, ℕ, ◌+◌, ◌-◌, ◌*◌, ◌^◌, ◌<◌, nat_eq, nat_le, nat_lt, Bool, not, ◌&&◌, length}
use Rattle.std.specs.Prelude.{slice_index, List, [], ◌∷◌, if◌then◌else◌, Option, Some, None}
use Rattle.std.specs.Fmt.{decimal}
use Rattle.std.specs.List.{list_all}
use Rattle.td_cdr.specs.Names.{is_digit}

-- A word spells a number below the limit: it is what is printed of that number.
pub record SpellsBelow (limit : ℕ) (word : List ℕ) (n : ℕ) : Type 0 where
  pub below : n < limit
  pub printed : word ≡ decimal n

-- ---- how such a word is read

abbrev pub leads_with_zero : List ℕ → Bool
leads_with_zero word = nat_le 2 (length word) && nat_eq (slice_index word 0) 48

-- one digit or more, the first of which is zero only where it stands alone
abbrev pub numeral : List ℕ → Bool
numeral word = nat_le 1 (length word) && list_all is_digit word && not (leads_with_zero word)

-- the number whose digits are those of n and then these
abbrev pub number_after : ℕ → List ℕ → ℕ
number_after n [] = n
number_after n (digit ∷ digits) = number_after (n * 10 + (digit - 48)) digits

unfoldable pub number_below : ℕ → List ℕ → Option ℕ
number_below limit word =
    if numeral word && nat_lt (number_after 0 word) limit then Some (number_after 0 word) else None

-- a number of 64 bits
abbrev pub number_of : List ℕ → Option ℕ
number_of word = number_below (2 ^ 64) word

abbrev pub port_of : List ℕ → Option ℕ
port_of word = number_below 65536 word

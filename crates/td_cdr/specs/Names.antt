-- Trading Object Service, and CORBA's IDL Syntax and Semantics on identifiers.
-- The names of service types, links, properties, policies and traders, as tests on their bytes. A
-- service type's and a link's name is a word name, a property's and a policy's an identifier.
use Rattle.std.specs.Prelude.{ℕ, nat_le, nat_eq, Bool, false, ◌&&◌, ◌||◌, IsTrue, List, [], ◌∷◌, length}
use Rattle.std.specs.List.{list_all}

abbrev pub is_digit : ℕ → Bool
is_digit b = nat_le 48 b && nat_le b 57

abbrev pub is_letter : ℕ → Bool
is_letter b = (nat_le 65 b && nat_le b 90) || (nat_le 97 b && nat_le b 122)

-- a letter, a digit or `_`
abbrev pub is_word : ℕ → Bool
is_word b = is_letter b || is_digit b || nat_eq b 95

-- a printing byte of ASCII, and no space
abbrev pub is_printing : ℕ → Bool
is_printing b = nat_le 33 b && nat_le b 126

-- a letter, a digit, `_` or `-`
abbrev pub is_trader_byte : ℕ → Bool
is_trader_byte b = is_word b || nat_eq b 45

-- 1 to 256 printing bytes
abbrev pub word_name : List ℕ → Bool
word_name name = nat_le 1 (length name) && nat_le (length name) 256 && list_all is_printing name

-- a letter, and then letters, digits and `_`, 256 bytes at most
abbrev pub identifier : List ℕ → Bool
identifier [] = false
identifier (first ∷ others) = is_letter first && nat_le (length others) 255
    && list_all is_word others

-- 1 to 32 letters, digits, `_` and `-`
abbrev pub trader_name : List ℕ → Bool
trader_name name = nat_le 1 (length name) && nat_le (length name) 32 && list_all is_trader_byte name

abbrev pub IsIdentifier : List ℕ → Type 0
IsIdentifier name = IsTrue (identifier name)

abbrev pub IsTraderName : List ℕ → Type 0
IsTraderName name = IsTrue (trader_name name)

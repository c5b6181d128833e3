-- Where the bytes of a text stand: the first few of a place in it, or all of a vector.
use Rattle.std.specs.Prelude.{ℕ, List, take, ◌≤◌, ⊤}
use Rattle.td_cdr.specs.declared.text.Bytes.{Bytes}
use Rattle.td_cdr.specs.declared.text.Bytes.TheVariants.{Short, Long}

abbrev pub bytes_in : Bytes → List ℕ
bytes_in (Short bytes len) = take len bytes
bytes_in (Long bytes) = bytes.items

-- a place has room for so many
abbrev pub IsWithin : Bytes → Type 0
IsWithin (Short bytes len) = len ≤ 30
IsWithin (Long bytes) = ⊤

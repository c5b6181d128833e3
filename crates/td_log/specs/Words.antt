-- The words of a line, with one space between two, and the lines of a log, with a line feed behind each.
use Rattle.std.specs.Prelude.{ℕ, ◌+◌, nat_eq, Bool, true, false, List, [], ◌∷◌, take, drop, if◌then◌else◌}
use Rattle.std.specs.Prelude.{Option, Some, None, is_some}
use Rattle.std.specs.List.{position, slice_split}
use Rattle.td_ior.specs.Keys.{◌>>=◌}
use Rattle.td_ior.specs.Number.{number_of}

-- ---- words

-- the word before the first space, and what stands behind that space
unfoldable pub cut_word : List ℕ → Option (List ℕ × List ℕ)
cut_word text = position (λ b. nat_eq b 32) text >>= λ i. Some (take i text, drop (i + 1) text)

-- a text without a space is one word
abbrev pub one_word : List ℕ → Option (List ℕ)
one_word text = if is_some (cut_word text) then None else Some text

unfoldable pub two_words : List ℕ → Option (List ℕ × List ℕ)
two_words text = do
  first ← cut_word text
  second ← one_word first.1
  Some (first.0, second)

unfoldable pub three_words : List ℕ → Option (List ℕ × List ℕ × List ℕ)
three_words text = do
  first ← cut_word text
  second ← cut_word first.1
  third ← one_word second.1
  Some (first.0, second.0, third)

-- ---- numbers

abbrev pub with_number : Option ℕ → Option (List ℕ) → Option (List ℕ)
with_number (Some n) (Some ns) = Some (n ∷ ns)
with_number (Some n) None = None
with_number None ns = None

-- the numbers that these words spell
abbrev pub each_number : List (List ℕ) → Option (List ℕ)
each_number [] = Some []
each_number (word ∷ words) = with_number (number_of word) (each_number words)

-- the numbers of a text: decimal, without leading zeros, below 2^64
unfoldable pub numbers_of : List ℕ → Option (List ℕ)
numbers_of text = each_number (slice_split (λ b. nat_eq b 32) text)

-- the number that a text of one word spells
abbrev pub one_number : List ℕ → Option ℕ
one_number text = one_word text >>= number_of

-- ---- lines

abbrev pub is_empty : List ℕ → Bool
is_empty [] = true
is_empty (b ∷ bytes) = false

-- behind the last line feed stands a line, unless nothing does
abbrev pub without_end : List (List ℕ) → List (List ℕ)
without_end [] = []
without_end (line ∷ []) = if is_empty line then [] else line ∷ []
without_end (line ∷ next ∷ lines) = line ∷ without_end (next ∷ lines)

-- the lines of a log
unfoldable pub lines_of : List ℕ → List (List ℕ)
lines_of log = without_end (slice_split (λ b. nat_eq b 10) log)

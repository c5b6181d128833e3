-- The words of a line: what stands between spaces and tabs.
use Rattle.std.specs.Prelude.{ℕ, nat_eq, Bool, true, false, not, ◌||◌, List, [], ◌∷◌, length, take, drop, codes}
use Rattle.std.specs.Prelude.{if◌then◌else◌, Option, Some, None, is_some}
use Rattle.std.specs.List.{filter, position, slice_split}
use Rattle.std.specs.Option.{unwrap_or}
use Rattle.std.specs.Str.{bytes_eq}
use Rattle.td_ior.specs.Keys.{◌>>=◌}

-- it is empty, or begins with `#`
abbrev pub is_skipped : List ℕ → Bool
is_skipped [] = true
is_skipped (first ∷ others) = nat_eq first 35

-- a space or a tab
abbrev pub is_blank : ℕ → Bool
is_blank b = nat_eq b 32 || nat_eq b 9

abbrev pub is_empty : List ℕ → Bool
is_empty [] = true
is_empty (_ ∷ _) = false

-- what stands between blanks, in order; nothing between two blanks is no word
unfoldable pub words : List ℕ → List (List ℕ)
words line = filter (λ w. not (is_empty w)) (slice_split is_blank line)

-- ---- one word after the other

-- what stands before place n, and what from there on
abbrev pub cut_at : ℕ → List ℕ → List ℕ × List ℕ
cut_at n line = (take n line, drop n line)

-- the word that a line begins with, and what stands right behind it
abbrev pub cut_front : List ℕ → List ℕ × List ℕ
cut_front line = cut_at (unwrap_or (position is_blank line) (length line)) line

-- the first word, and what stands right behind it
unfoldable pub cut_word : List ℕ → Option (List ℕ × List ℕ)
cut_word [] = None
cut_word (b ∷ bytes) = if is_blank b then cut_word bytes else Some (cut_front (b ∷ bytes))

-- a word and those behind it
abbrev pub word_list : Option (List ℕ × List ℕ) → List (List ℕ)
word_list None = []
word_list (Some cut) = cut.0 ∷ words cut.1

-- ---- lines of so many words

-- this, where no word is left
abbrev pub at_end : {A : Type 0} → List ℕ → A → Option A
at_end rest x = if is_some (cut_word rest) then None else Some x

unfoldable pub one_word : List ℕ → Option (List ℕ)
one_word line = do
  a ← cut_word line
  at_end a.1 a.0

unfoldable pub two_words : List ℕ → Option (List ℕ × List ℕ)
two_words line = do
  a ← cut_word line
  b ← cut_word a.1
  at_end b.1 (a.0, b.0)

unfoldable pub three_words : List ℕ → Option (List ℕ × List ℕ × List ℕ)
three_words line = do
  a ← cut_word line
  b ← cut_word a.1
  c ← cut_word b.1
  at_end c.1 (a.0, b.0, c.0)

unfoldable pub four_words : List ℕ → Option (List ℕ × List ℕ × List ℕ × List ℕ)
four_words line = do
  a ← cut_word line
  b ← cut_word a.1
  c ← cut_word b.1
  d ← cut_word c.1
  at_end d.1 (a.0, b.0, c.0, d.0)

unfoldable pub five_words : List ℕ → Option (List ℕ × List ℕ × List ℕ × List ℕ × List ℕ)
five_words line = do
  a ← cut_word line
  b ← cut_word a.1
  c ← cut_word b.1
  d ← cut_word c.1
  e ← cut_word d.1
  at_end e.1 (a.0, b.0, c.0, d.0, e.0)

-- ---- lines whose rest is one text

-- what stands behind a space
abbrev pub behind_space : List ℕ → Option (List ℕ)
behind_space rest = if bytes_eq (take 1 rest) (codes " ") then Some (drop 1 rest) else None

-- two words, and the rest of the line behind a space
unfoldable pub two_and_text : List ℕ → Option (List ℕ × List ℕ × List ℕ)
two_and_text line = do
  a ← cut_word line
  b ← cut_word a.1
  text ← behind_space b.1
  Some (a.0, b.0, text)

-- three words, and the rest of the line behind a space
unfoldable pub three_and_text : List ℕ → Option (List ℕ × List ℕ × List ℕ × List ℕ)
three_and_text line = do
  a ← cut_word line
  b ← cut_word a.1
  c ← cut_word b.1
  text ← behind_space c.1
  Some (a.0, b.0, c.0, text)

-- Random words that lie in a list, of which so many were drawn.
use Rattle.std.specs.Prelude.{◌≡◌, ℕ, zero, suc, ◌+◌, nat_le, if◌then◌else◌, List, [], ◌∷◌, length, slice_index, Option}
use Rattle.td_out.specs.RandomWords.{StreamSeed}

-- The words, how many of them were drawn, and the last seeding, which changes none of them.
pub record WordSupply : Type 0 where
  pub all : List ℕ
  pub drawn : ℕ
  pub seeding : Option StreamSeed

-- the words to come; past the list's end words are 0
abbrev pub words_from : List ℕ → (drawn : ℕ) → ℕ → ℕ
words_from words drawn k = slice_index words (drawn + k)

abbrev pub word_of : WordSupply → ℕ → ℕ
word_of s = words_from s.all s.drawn

-- how many were drawn once n more were; those past the list's end aren't counted
abbrev pub drawn_after : List ℕ → (drawn n : ℕ) → ℕ
drawn_after words drawn n = if nat_le (drawn + n) (length words) then drawn + n else length words

-- the last word isn't 0
abbrev pub IsTrimmed : List ℕ → Type 0
IsTrimmed words = (k : ℕ) → k + 1 ≡ length words → slice_index words k ≡ 0 → ⊥

-- a word in front of others, from which zeros at the end are left out
abbrev pub before_trimmed : ℕ → List ℕ → List ℕ
before_trimmed zero [] = []
before_trimmed (suc n) [] = suc n ∷ []
before_trimmed word (next ∷ words) = word ∷ next ∷ words

-- without the zeros at the end
abbrev pub without_zeros : List ℕ → List ℕ
without_zeros [] = []
without_zeros (word ∷ words) = before_trimmed word (without_zeros words)

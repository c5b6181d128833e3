-- Random words of 64 bits: what seeded them, and which come.
use Rattle.std.specs.Prelude.{ℕ, ◌+◌, ◌*◌, ◌^◌, ◌%◌, List, Option, slice_index}
use Rattle.rand_chacha.specs.ChaCha.{word_at, key_of}

-- a key of 32 bytes, and the number of one of its streams
pub record StreamSeed : Type 0 where
  pub key : List ℕ
  pub stream : ℕ

-- ---- words in memory

pub record WordsState : Type 0 where
  pub left : List ℕ
  pub seeding : Option StreamSeed

-- past the list's end words are 0
abbrev pub word_in : WordsState → ℕ → ℕ
word_in d k = slice_index d.left k

-- ---- words of ChaCha20

-- the place in a stream of the next word of 32 bits
pub record WordPosition : Type 0 where
  pub seeding : StreamSeed
  pub place : ℕ

-- the word of 32 bits at a place of a stream, which repeats after 2^68 of them; ChaCha20 has ten double rounds
abbrev pub half_at : StreamSeed → ℕ → ℕ
half_at s place = word_at 10 (key_of s.key) s.stream (place % 2 ^ 68)

-- each word is two successive ones of 32 bits, the first one the lower half
abbrev pub chacha_word : WordPosition → ℕ → ℕ
chacha_word c k = half_at c.seeding (c.place + 2 * k)
    + 2 ^ 32 * half_at c.seeding (c.place + 2 * k + 1)

-- the beginning of a stream
abbrev pub start_of : StreamSeed → WordPosition
start_of s = record { seeding = s; place = 0 }

-- What a read brought, and what a write took.
use Rattle.std.specs.Prelude.{◌≡◌, ◌⊎◌, ℕ, ◌<◌, ◌≤◌, List, [], ◌++◌, length, take, Option}
use Rattle.std.specs.Io.KnownBytes.{Appends, Consumes, IsAtEnd}
use Rattle.td_out.specs.Causes.{Rose}
use Rattle.td_giop.specs.Stream.{Stream}
use Rattle.td_stream.specs.declared.piece.Piece.{Piece}
use Rattle.td_stream.specs.declared.piece.Piece.TheVariants.{Came, Ended, Failed, Memory}

-- these bytes came, at most so many
pub record BytesCome (most : ℕ) (left0 left1 : Option (List ℕ)) (bytes : List ℕ) : Type 0 where
  pub consumed : Consumes left0 left1 bytes
  pub within : length bytes ≤ most

-- A read of a piece of at most so many bytes, which went into the stream where memory was found.
abbrev pub Brings : Piece → (most : ℕ) → (left0 left1 : Option (List ℕ)) → (reads0 reads1 : ℕ)
    → Stream → Stream → Type 0
Brings (Came count) most left0 left1 reads0 reads1 old new =
    (bytes : List ℕ) × BytesCome most left0 left1 bytes × (length bytes ≡ count) × (0 < count)
    × (new ≡ record old { rest = old.rest ++ bytes })
Brings Ended most left0 left1 reads0 reads1 old new = Consumes left0 left1 [] × IsAtEnd left1
    × (new ≡ old)
Brings Failed most left0 left1 reads0 reads1 old new = Consumes left0 left1 [] × Rose reads0 reads1
    × (new ≡ old)
Brings Memory most left0 left1 reads0 reads1 old new = (bytes : List ℕ)
    × BytesCome most left0 left1 bytes × (new ≡ old)

-- A piece was written, or a front of it with a count of faults that rose.
pub record WritesFront (piece : List ℕ) (written0 written1 : Option (List ℕ))
    (writes0 writes1 : ℕ) : Type 0 where
  pub sent : ℕ
  pub gave : Appends written0 written1 (take sent piece)
  pub whole : (sent ≡ length piece) ⊎ Rose writes0 writes1
  pub later : writes0 ≤ writes1

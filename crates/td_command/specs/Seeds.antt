-- What seeds the random words of the program.
use Rattle.std.specs.Prelude.{ℕ}
use Rattle.td_file.specs.Files.{Opening}
use Rattle.td_out.specs.RandomWords.{StreamSeed}

-- the random words that come after each seeding
abbrev pub WordsBySeeding : Type 0
WordsBySeeding = StreamSeed → ℕ → ℕ

-- a session and a drill are seeded with the file's seed and stream 0
abbrev pub seeding_of : Opening → StreamSeed
seeding_of o = record { key = o.seed; stream = 0 }

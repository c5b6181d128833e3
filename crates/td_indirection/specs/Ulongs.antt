-- An unsigned long as the number in front of a sequence, and as that of an indirection.
use Rattle.std.specs.Prelude.{◌≡◌, ℕ, List, length, replicate}
use Rattle.std.proofs.Common.{arith, length-append}
use Rattle.std.proofs.lemmas.List.{length-replicate}
use Rattle.td_cdr.specs.Gap.{gap, bytes_of}
use Rattle.td_cdr.specs.Joined.{length-bytes_of}
use Rattle.td_cdr.specs.Sound.{ulong}
use Rattle.td_indirection.specs.Indirections.{IsLong}
use Rattle.td_indirection.specs.Choices.{IsSized}

-- an unsigned long is four bytes behind its padding
pub ulong-sized : IsSized ulong
ulong-sized n order place =
    let padding : List ℕ = replicate (gap 4 place) 0 in
    let zeros : length padding ≡ gap 4 place = length-replicate (gap 4 place) 0 in
    omega (
      arith,
      zeros,
      length-append padding (bytes_of order 4 n),
      length-bytes_of order 4 n,
    )

pub ulong-long : IsLong ulong
ulong-long = record { admits = λ n few. few; size = ulong-sized }

-- Octets in hexadecimal digits are half as many.
use Rattle.std.proofs.Common.{◌≡◌, ℕ, ◌+◌, ◌*◌, ◌%◌, ◌==◌, Bool, true, false, List, [], ◌∷◌, length, if◌then◌else◌}
use Rattle.std.proofs.Common.{Result, Ok, Err, IfOk, refl, arith}
use Rattle.hex.specs.Hex.{◌>>=◌, decode_of, decode_pairs, pair_value}
use Rattle.hex.specs.declared.error.FromHexError.{FromHexError}
use Rattle.hex.specs.declared.error.FromHexError.TheVariants.{OddLength}

abbrev pub IsHalf : (digits octets : List ℕ) → Type 0
IsHalf digits octets = length octets * 2 ≡ length digits

half-more : (high low : ℕ) (digits : List ℕ) (octet : Result ℕ FromHexError) (octets : Result (List ℕ) FromHexError)
    → IfOk octets (IsHalf digits)
    → IfOk (octet >>= λ o. octets >>= λ os. Ok (o ∷ os)) (IsHalf (high ∷ low ∷ digits))
half-more high low digits (Ok o) (Ok os) h = omega (arith, h)
half-more high low digits (Ok o) (Err e) h = tt
half-more high low digits (Err e) octets h = tt

half-pairs : (i : ℕ) (digits : List ℕ) → IfOk (decode_pairs i digits) (IsHalf digits)
unfolding decode_pairs
half-pairs i [] = refl
half-pairs i (digit ∷ []) = tt
half-pairs i (high ∷ low ∷ digits) =
    half-more high low digits (pair_value high low i) (decode_pairs (i + 2) digits) (half-pairs (i + 2) digits)

half-unless : (digits : List ℕ) (odd : Bool) (e : FromHexError) (r : Result (List ℕ) FromHexError)
    → IfOk r (IsHalf digits) → IfOk (if odd then Err e else r) (IsHalf digits)
half-unless digits true e r h = tt
half-unless digits false e r h = h

pub half : (digits : List ℕ) → IfOk (decode_of digits) (IsHalf digits)
half digits = half-unless digits (length digits % 2 == 1) OddLength (decode_pairs 0 digits) (half-pairs 0 digits)

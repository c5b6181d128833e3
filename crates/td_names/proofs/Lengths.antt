-- How long a made profile and a made reference are at most.
use Rattle.std.proofs.Common.{◌≡◌, ℕ, ◌+◌, ◌≤◌, List, [], ◌∷◌, ◌++◌, length, replicate, arith, length-append}
use Rattle.std.proofs.lemmas.List.{length-replicate}
use Rattle.byteorder.specs.Numbers.{length-bytes_high_first, length-bytes_low_first}
use Rattle.td_cdr.specs.Format.{Piece, number, row, ◌then◌}
use Rattle.td_cdr.specs.Gap.{gap, bytes_of}
use Rattle.td_cdr.specs.Sound.{octets, text}
use Rattle.td_cdr.specs.Writing.{written_number, written_octets}
use Rattle.td_cdr.specs.declared.order.Order.{Order}
use Rattle.td_cdr.specs.declared.order.Order.TheVariants.{Big, Little}
use Rattle.td_typecode.specs.References.{profile, reference}
use Rattle.td_typecode.specs.declared.reference.Profile.{Profile}
use Rattle.td_ior.specs.Profiles.{made_octets, made_profile, made_reference}

length-bytes_of : (order : Order) (size v : ℕ) → length (bytes_of order size v) ≡ size
length-bytes_of Big size v = length-bytes_high_first size v
length-bytes_of Little size v = length-bytes_low_first 0 size v

number-length : (size : ℕ) (order : Order) (place v : ℕ)
    → length (written_number size order place v) ≡ gap size place + size
number-length size order place v =
    let zeros : length {A = ℕ} (replicate (gap size place) 0) ≡ gap size place = length-replicate (gap size place) 0 in
    omega (
      arith,
      length-append (replicate (gap size place) 0) (bytes_of order size v),
      zeros,
      length-bytes_of order size v,
    )

octets-length : (order : Order) (place : ℕ) (v : List ℕ)
    → length (written_octets order place v) ≡ gap 4 place + 4 + length v
octets-length order place v = omega (
  arith,
  length-append (written_number 4 order place (length v)) v,
  number-length 4 order place (length v),
)

-- ---- pieces that are at most so long, wherever they stand

record IsAtMost (n : ℕ) (p : Piece) : Type 0 where
  short : (order : Order) (place : ℕ) → length (p order place) ≤ n

octet-short : (v : ℕ) → IsAtMost 1 ((number 1).writes v)
octet-short v = record { short = λ order place. omega (arith, number-length 1 order place v) }

port-short : (v : ℕ) → IsAtMost 3 ((number 2).writes v)
port-short v = record { short = λ order place. omega (arith, number-length 2 order place v) }

octets-short : (v : List ℕ) → IsAtMost (7 + length v) (λ order place. written_octets order place v)
octets-short v = record { short = λ order place. omega (arith, octets-length order place v) }

text-short : (v : List ℕ) → IsAtMost (8 + length v) (text.format.writes v)
text-short v =
    record {
      short = λ order place. omega (
        arith,
        octets-length order place (v ++ 0 ∷ []),
        length-append v (0 ∷ []),
      );
    }

then-short : (m n : ℕ) (p q : Piece) → IsAtMost m p → IsAtMost n q → IsAtMost (m + n) (p then q)
then-short m n p q a b = record {
  short = λ order place.
      let first = a.short order place in
      let second = b.short order (place + length (p order place)) in
      omega (arith, first, second, length-append (p order place) (q order (place + length (p order place))));
}

-- the version's two octets, the host, the port and the key, behind the octet that tells the order; a profile of version
-- 1.0 has nothing behind them
pub made-short : (host key : List ℕ) (port : ℕ) → length (made_octets host port key 0) ≤ 21 + length host + length key
made-short host key port =
    let keyed : Piece = λ order place. written_octets order place key in
    let port_on : Piece = (number 2).writes port then keyed in
    let host_on : Piece = text.format.writes host then port_on in
    let minor_on : Piece = (number 1).writes 0 then host_on in
    let a : IsAtMost (3 + (7 + length key)) port_on =
    then-short 3 (7 + length key) ((number 2).writes port) keyed (port-short port) (octets-short key) in
    let b : IsAtMost ((8 + length host) + (3 + (7 + length key))) host_on =
    then-short (8 + length host) (3 + (7 + length key)) (text.format.writes host) port_on (text-short host) a in
    let c : IsAtMost (1 + ((8 + length host) + (3 + (7 + length key)))) minor_on =
    then-short 1 ((8 + length host) + (3 + (7 + length key))) ((number 1).writes 0) host_on (octet-short 0) b in
    let d : IsAtMost (1 + (1 + ((8 + length host) + (3 + (7 + length key))))) ((number 1).writes 1 then minor_on) =
    then-short 1 (1 + ((8 + length host) + (3 + (7 + length key)))) ((number 1).writes 1) minor_on (octet-short 1) c in
    let front : List ℕ = ((number 1).writes 1 then minor_on) Big 1 in
    omega (arith, d.short Big 1, length-append front [])

-- ---- references of one profile

ulong-short : (v : ℕ) → IsAtMost 7 ((number 4).writes v)
ulong-short v = record { short = λ order place. omega (arith, number-length 4 order place v) }

profile-short : (p : Profile) → IsAtMost (7 + (7 + length p.octets)) (profile.format.writes p)
profile-short p =
    then-short 7 (7 + length p.octets) ((number 4).writes p.tag) (octets.format.writes p.octets) (ulong-short p.tag)
    (octets-short p.octets)

one-short : (p : Piece) (n : ℕ) → IsAtMost n p → IsAtMost n (row (p ∷ []))
one-short p n a = record {
  short = λ order place. omega (arith, a.short order place, length-append (p order place) []);
}

reference-short : (id : List ℕ) (p : Profile)
    → IsAtMost ((8 + length id) + (7 + (7 + (7 + length p.octets))))
    (reference.format.writes (record { id = id; profiles = p ∷ [] }))
reference-short id p =
    then-short (8 + length id) (7 + (7 + (7 + length p.octets))) (text.format.writes id)
    ((number 4).writes 1 then row (profile.format.writes p ∷ [])) (text-short id)
    (then-short 7 (7 + (7 + length p.octets)) ((number 4).writes 1) (row (profile.format.writes p ∷ [])) (ulong-short 1)
    (one-short (profile.format.writes p) (7 + (7 + length p.octets)) (profile-short p)))

pub made_reference-short : (id host key : List ℕ) (port : ℕ) (order : Order) (place : ℕ)
    → length (reference.format.writes (made_reference id host port key 0) order place)
    ≤ 50 + length id + length host + length key
made_reference-short id host key port order place =
    let octets_are = made-short host key port in
    let whole = (reference-short id (made_profile host port key 0)).short order place in
    omega (arith, octets_are, whole)

-- The references of the offers of a generated file have few bytes.
use Rattle.std.proofs.Common.{ℕ, ◌+◌, ◌^◌, ◌<◌, ◌≤◌, List, [], ◌∷◌, ◌++◌, codes, length, arith, length-append}
use Rattle.std.proofs.lemmas.Fmt.{length-decimal-le}
use Rattle.std.specs.Fmt.{decimal}
use Rattle.td_typecode.specs.declared.reference.Ior.{Ior}
use Rattle.td_ior.specs.Profiles.{iiop_tag, made_octets}
use Rattle.td_iter.specs.Heads.{IsSmallReference}
use Rattle.td_make_laws.specs.Said.{item}
use Rattle.td_forms.specs.Counted.{label_number}

digits-few : (n : ℕ) → n < 2 ^ 64 → length (decimal n) ≤ 20
digits-few n h = length-decimal-le 20 n (omega arith) (omega (arith, h)) h

abbrev key : (trader number : ℕ) → List ℕ
key trader number = label_number (label_number [] trader ++ codes ".") number

key-few : (trader number : ℕ) → trader < 2 ^ 64 → number < 2 ^ 64 → length (key trader number) ≤ 41
key-few trader number low few =
    omega (
      arith,
      digits-few trader low,
      digits-few number few,
      length-append (decimal trader) (codes "."),
      length-append (decimal trader ++ codes ".") (decimal number),
    )

-- behind the byte order: the version, the host, the port and the key
octets-few : (k : List ℕ) → length (made_octets (codes "h") 9 k 0) ≤ length k + 32
octets-few k = omega (arith, length-append k [])

-- the reference of an item, with such octets in its profile
abbrev with_octets : List ℕ → Ior
with_octets os = record { id = codes "IDL:Item:1.0"; profiles = record { tag = iiop_tag; octets = os } ∷ [] }

reference-few : (os : List ℕ) → length os ≤ 80 → IsSmallReference (with_octets os)
reference-few os h = omega (arith, h, length-append os [], length-append (os ++ []) [])

pub item-small : (trader number : ℕ) → trader < 2 ^ 64 → number < 2 ^ 64 → IsSmallReference (item trader number)
item-small trader number low few =
    let k = key-few trader number low few in
    let inner = octets-few (key trader number) in
    reference-few (made_octets (codes "h") 9 (key trader number) 0) (omega (arith, k, inner))

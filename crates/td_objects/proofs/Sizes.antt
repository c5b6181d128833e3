-- How long the references are that the server gives of its iterators.
use Rattle.std.proofs.Common.{◌≡◌, ℕ, ◌+◌, ◌^◌, ◌<◌, ◌≤◌, ◌&&◌, nat_eq, nat_le, Bool, true, false, if◌then◌else◌, List}
use Rattle.std.proofs.Common.{[], ◌∷◌, ◌++◌, length, codes, subst, sym, arith, length-append}
use Rattle.std.proofs.lemmas.Bool.{leb-true}
use Rattle.std.proofs.lemmas.Fmt.{length-decimal-le}
use Rattle.std.specs.Fmt.{decimal}
use Rattle.std.specs.List.{list_all}
use Rattle.std.specs.Prelude.{IfOk, Result, Ok, Err}
use Rattle.td_cdr.specs.declared.memory.Memory.{Memory}
use Rattle.td_cdr.specs.declared.order.Order.{Order}
use Rattle.td_cdr.specs.declared.order.Order.TheVariants.{Big}
use Rattle.td_cdr.specs.Format.{Piece, ◌then◌, row}
use Rattle.td_cdr.specs.Format.{number as number_format}
use Rattle.td_cdr.specs.Gap.{flag}
use Rattle.td_cdr.specs.Names.{IsTraderName, is_trader_byte}
use Rattle.td_cdr.specs.Sound.{number, octets, sequence, text}
use Rattle.td_typecode.specs.References.{profile, reference}
use Rattle.td_typecode.specs.declared.reference.Ior.{Ior}
use Rattle.td_typecode.specs.declared.reference.Profile.{Profile}
use Rattle.td_ior.proofs.Numbers.{and-left, and-right}
use Rattle.td_ior.specs.Keys.{written_key}
use Rattle.td_ior.specs.Profiles.{iiop_major, made_octets, made_profile, no_components}
use Rattle.td_iter.proofs.Endings.{text-length}
use Rattle.td_iter.proofs.Lengths.{number-length, octets-length}
use Rattle.td_iter.specs.Heads.{IsSmallReference}
use Rattle.td_value.specs.declared.key.Kind.TheVariants.{Iterator}
use Rattle.td_walk.specs.declared.trace.Address.{Address}
use Rattle.td_objects.specs.Interfaces.{interface_id}
use Rattle.td_objects.specs.References.{IsAddress, iterator_reference, offer_iterator, own_reference}
use Rattle.td_objects.specs.declared.interface.Interface.{Interface}
use Rattle.td_objects.specs.declared.interface.Interface.TheVariants.{OfferIdIterator, OfferIterator}

-- ---- pieces that are at most so long, wherever they stand

record Short (p : Piece) (most : ℕ) : Type 0 where
  long : (o : Order) (place : ℕ) → length (p o place) ≤ most

then_short : (p q : Piece) (m n : ℕ) → Short p m → Short q n → Short (p then q) (m + n)
then_short p q m n a b = record {
  long = λ o place. omega (
    arith,
    a.long o place,
    b.long o (place + length (p o place)),
    length-append (p o place) (q o (place + length (p o place))),
  );
}

octet_short : (v : ℕ) → Short ((number_format 1).writes v) 1
octet_short v = record { long = λ o place. omega (arith, number-length 1 o place v) }

ushort_short : (v : ℕ) → Short ((number_format 2).writes v) 3
ushort_short v = record { long = λ o place. omega (arith, number-length 2 o place v) }

ulong_short : (v : ℕ) → Short ((number_format 4).writes v) 7
ulong_short v = record { long = λ o place. omega (arith, number-length 4 o place v) }

octets_short : (v : List ℕ) → Short (octets.format.writes v) (7 + length v)
octets_short v = record { long = λ o place. omega (arith, octets-length o place v) }

text_short : (v : List ℕ) → Short (text.format.writes v) (8 + length v)
text_short v = record { long = λ o place. omega (arith, text-length v o place) }

one_short : (p : Piece) (m : ℕ) → Short p m → Short (row (p ∷ [])) m
one_short p m a = record { long = λ o place. omega (arith, a.long o place, length-append (p o place) []) }

-- ---- the octets of a profile

cons_short : (x : ℕ) (b : List ℕ) (n : ℕ) → length b ≤ n → length (x ∷ b) ≤ n + 1
cons_short x b n h = omega (arith, h)

-- at most the count of an empty sequence
no_components_short : (minor : ℕ) → Short (no_components minor) 7
no_components_short minor = record { long = λ o place. at_version (nat_eq minor 0) o place }
  where
    at_version : (older : Bool) (o : Order) (place : ℕ)
        → length (if older then [] else (sequence profile).format.writes [] o place) ≤ 7
    at_version true o place = omega arith
    at_version false o place =
        omega (
          arith,
          (ulong_short 0).long o place,
          length-append ((number_format 4).writes 0 o place) [],
        )

made_short : (host key : List ℕ) (port minor : ℕ)
    → length (made_octets host port key minor) ≤ length host + length key + 28
made_short host key port minor =
    let p = (number 1).format.writes iiop_major in
    let q = (number 1).format.writes minor in
    let r = text.format.writes host in
    let s = (number 2).format.writes port in
    let t = octets.format.writes key in
    let st = then_short s t 3 (7 + length key) (ushort_short port) (octets_short key) in
    let rst = then_short r (s then t) (8 + length host) (3 + (7 + length key)) (text_short host) st in
    let qrst =
    then_short q (r then s then t) 1 (8 + length host + (3 + (7 + length key))) (octet_short minor) rst in
    let all =
    then_short p (q then r then s then t) 1 (1 + (8 + length host + (3 + (7 + length key)))) (octet_short iiop_major)
    qrst in
    let front : ℕ = 1 + (1 + (8 + length host + (3 + (7 + length key)))) in
    let both =
    then_short (p then q then r then s then t) (no_components minor) front 7 all (no_components_short minor) in
    let whole : length (made_octets host port key minor) ≤ front + 7 + 1 =
    cons_short (flag Big) (((p then q then r then s then t) then no_components minor) Big 1) (front + 7)
    (both.long Big 1) in
    omega (arith, whole)

-- ---- references with one profile

profile_short : (p : Profile) → Short (profile.format.writes p) (14 + length p.octets)
profile_short p =
    let both =
    then_short ((number_format 4).writes p.tag) (octets.format.writes p.octets) 7 (7 + length p.octets)
    (ulong_short p.tag) (octets_short p.octets) in
    record { long = λ o place. (let h = both.long o place in omega (arith, h)) }

reference_short : (id : List ℕ) (p : Profile)
    → Short (reference.format.writes (record { id = id; profiles = p ∷ [] })) (29 + length id + length p.octets)
reference_short id p =
    let profiles =
    then_short ((number_format 4).writes 1) (row (profile.format.writes p ∷ [])) 7 (14 + length p.octets)
    (ulong_short 1) (one_short (profile.format.writes p) (14 + length p.octets) (profile_short p)) in
    let both =
    then_short (text.format.writes id) ((number_format 4).writes 1 then row (profile.format.writes p ∷ []))
    (8 + length id) (7 + (14 + length p.octets)) (text_short id) profiles in
    record { long = λ o place. (let h = both.long o place in omega (arith, h)) }

-- ---- an iterator's

name_short : (name : List ℕ) → IsTraderName name → length name ≤ 32
name_short name e =
    let front =
    and-left (nat_le 1 (length name) && nat_le (length name) 32) (list_all is_trader_byte name) e in
    leb-true (length name) 32 (and-right (nat_le 1 (length name)) (nat_le (length name) 32) front)

key_short : (name : List ℕ) (n : ℕ) → IsTraderName name → n < 2 ^ 64
    → length (written_key (record { trader = name; kind = Iterator n })) ≤ 55
key_short name n t h =
    let digits : length (decimal n) ≤ 20 = length-decimal-le 20 n (omega arith) (omega (arith, h)) h in
    let short = name_short name t in
    let inner = length-append (codes "I/") (decimal n) in
    let whole = length-append name (47 ∷ (codes "I/" ++ decimal n)) in
    omega (arith, digits, short, inner, whole)

own_small : (home : Address) (i : Interface) (name : List ℕ) (n : ℕ) → length (interface_id i) ≤ 64 → IsAddress home
    → IsTraderName name → n < 2 ^ 64 → IsSmallReference (own_reference home i name (Iterator n))
own_small home i name n id a t h =
    let key = written_key (record { trader = name; kind = Iterator n }) in
    let short = key_short name n t h in
    let octets_are = made_short home.host key home.port home.minor in
    let whole = (reference_short (interface_id i) (made_profile home.host home.port key home.minor)).long Big 0 in
    let host = a.short in
    omega (arith, short, octets_are, whole, id, host)

pub ids_small : (home : Address) (name : List ℕ) (n : ℕ) → IsAddress home → IsTraderName name → n < 2 ^ 64
    → IsSmallReference (iterator_reference home name n)
ids_small home name n a t h =
    let id : length (interface_id OfferIdIterator) ≤ 64 = omega arith in
    own_small home OfferIdIterator name n id a t h

pub offers_small : (home : Address) (name : List ℕ) (n : ℕ) → IsAddress home → IsTraderName name → n < 2 ^ 64
    → IsSmallReference (offer_iterator home name n)
offers_small home name n a t h =
    let id : length (interface_id OfferIterator) ≤ 64 = omega arith in
    own_small home OfferIterator name n id a t h

pub ids_if_small : (home : Address) (name : List ℕ) (n : ℕ) (r : Result Ior Memory) → IsAddress home
    → IsTraderName name → n < 2 ^ 64 → IfOk r (λ x. x ≡ iterator_reference home name n) → IfOk r IsSmallReference
ids_if_small home name n (Ok x) a t h e = subst IsSmallReference (sym e) (ids_small home name n a t h)
ids_if_small home name n (Err m) a t h e = tt

pub offers_if_small : (home : Address) (name : List ℕ) (n : ℕ) (r : Result Ior Memory) → IsAddress home
    → IsTraderName name → n < 2 ^ 64 → IfOk r (λ x. x ≡ offer_iterator home name n) → IfOk r IsSmallReference
offers_if_small home name n (Ok x) a t h e = subst IsSmallReference (sym e) (offers_small home name n a t h)
offers_if_small home name n (Err m) a t h e = tt

-- What the tests hand in is small.
use Rattle.std.proofs.Common.{◌≡◌, ℕ, ◌+◌, ◌≤◌, List, [], ◌∷◌, ◌++◌, length, length-append, subst, sym, arith}
use Rattle.std.specs.List.{AllByRecursion}
use Rattle.td_typecode.specs.declared.reference.Ior.{Ior}
use Rattle.td_cdr.specs.Sound.{text}
use Rattle.td_typecode.specs.References.{profile, reference}
use Rattle.td_iter.specs.Filling.{count_before}
use Rattle.td_iter.specs.Heads.{nil, AreSmallIds, AreSmallOffers, IsShort, IsSmallReference, AreLimits}
use Rattle.td_iter.proofs.Counting.{counted-length}
use Rattle.td_iter.proofs.Endings.{nil-small, text-length}
use Rattle.td_value.specs.Structures.{offer, property}
use Rattle.td_value.specs.declared.structures.Offer.{Offer}
use Rattle.td_lines_tests.specs.Bare.{bare_offer}

all-pushed : {X : Type 0} (P : X → Type 0) (xs : List X) (x : X) → AllByRecursion P xs → P x
    → AllByRecursion P (xs ++ x ∷ [])
all-pushed P [] x all h = (h, tt)
all-pushed P (y ∷ xs) x all h = (all.0, all-pushed P xs x all.1 h)

pub ids_pushed : (ids new : List (List ℕ)) (id : List ℕ) → new ≡ ids ++ id ∷ [] → AreSmallIds ids
    → length id ≤ 256 → AreSmallIds new
ids_pushed ids new id e all h = subst AreSmallIds (sym e) (all-pushed (λ id. length id ≤ 256) ids id all h)

offer-short : (id : List ℕ) → length id ≤ 1048563 → IsShort offer.format.writes (bare_offer id)
offer-short id h order place =
    let r : Ior = record { id = id; profiles = [] } in
    let front = text.format.writes id order place in
    let after = place + length front in
    let none = count_before profile.format.writes [] order after in
    let whole = reference.format.writes r order place in
    let last = count_before property.format.writes [] order (place + length whole) in
    omega (
      arith,
      h,
      text-length id order place,
      counted-length profile.format.writes [] order after,
      counted-length property.format.writes [] order (place + length whole),
      length-append front none,
      length-append whole last,
    )

pub offers_pushed : (offers new : List Offer) (o : Offer) (id : List ℕ) → new ≡ offers ++ o ∷ [] → o ≡ bare_offer id
    → AreSmallOffers offers → length id ≤ 1048563 → AreSmallOffers new
offers_pushed offers new o id e is all h =
    subst AreSmallOffers (sym e) (all-pushed (IsShort offer.format.writes) offers o all
    (subst (IsShort offer.format.writes) (sym is) (offer-short id h)))

pub nil_short : (r : Ior) → r ≡ nil → IsSmallReference r
nil_short r e = subst IsSmallReference (sym e) nil-small

pub no-limits : AreLimits []
no-limits = record { few = omega arith; each = tt }

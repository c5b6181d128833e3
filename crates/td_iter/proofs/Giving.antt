-- What an iterator gives, and that a batch isn't empty.
use Rattle.std.proofs.Common.{◌≡◌, ℕ, zero, suc, ◌+◌, ◌≤◌, ◌<◌, Bool, true, false, List, [], ◌∷◌, length, drop}
use Rattle.std.proofs.Common.{sym, ap, subst, ◌∙◌, arith, length-append}
use Rattle.std.specs.Int.{from_bool}
use Rattle.std.specs.List.{AllByRecursion}
use Rattle.td_cdr.specs.declared.order.Order.{Order}
use Rattle.td_cdr.specs.declared.order.Order.TheVariants.{Big}
use Rattle.td_cdr.specs.Format.{Piece, row}
use Rattle.td_cdr.specs.Gap.{gap}
use Rattle.td_cdr.specs.Sound.{text}
use Rattle.td_cdr.specs.Writing.{Draft}
use Rattle.td_typecode.specs.declared.reference.Ior.{Ior}
use Rattle.td_cdr.specs.Format.{number as number_format}
use Rattle.td_typecode.specs.Formats.{is_nonempty}
use Rattle.td_typecode.specs.References.{reference}
use Rattle.td_value.specs.declared.structures.Offer.{Offer}
use Rattle.td_value.specs.Structures.{offer}
use Rattle.td_iter.specs.declared.limits.TheConstants.{REPLY_START}
use Rattle.td_iter.specs.Batches.{PutsBatch, GivesBatch, FitsMessage}
use Rattle.td_iter.specs.Filling.{count_before, next_piece, first_piece}
use Rattle.td_iter.specs.Heads.{given_or_nil, items_found, offers_found, AreShort, AreSmallIds, AreSmallOffers}
use Rattle.td_iter.specs.Heads.{AreLimits, IsShort, IsSmallReference}
use Rattle.td_iter.specs.Truths.{content}
use Rattle.td_iter.specs.declared.truth.Truth.{Truth}
use Rattle.td_iter.proofs.Lengths.{number-length}
use Rattle.td_iter.proofs.Counting.{counted-length}
use Rattle.td_iter.proofs.Steadiness.{offer-steady}
use Rattle.td_iter.proofs.Endings.{ending, ending-short, reference-short, nil-small, text-length}

length-drop : {X : Type 0} (k : ℕ) (xs : List X) → k ≤ length xs → length (drop k xs) + k ≡ length xs
length-drop zero xs le = omega arith
length-drop (suc k) [] le = absurd (let no : ⊥ = omega (arith, le) in no)
length-drop (suc k) (x ∷ xs) le = (let more = length-drop k xs (omega (arith, le)) in omega (arith, more))

module _ {X : Type 0} (head : List X → Bool → Piece) (left slice rest : List X) (n k : ℕ) (old new : Draft) where
  abbrev Puts : List X → Type 0
  Puts xs = PutsBatch head xs n old new k

  pub within : slice ≡ left → Puts slice → k ≤ length left
  within s p = (let q = subst Puts s p in q.is_batch.there)

  pub gives-batch : slice ≡ left → Puts slice → rest ≡ drop k left → (more : Bool) → more ≡ is_nonempty rest
      → GivesBatch head left n rest old new more
  gives-batch s p r more m = record { count = k; puts = subst Puts s p; rest_is = r; more_is = m }

-- a batch for at least one item takes one, where one fits
pub moves-on : {X : Type 0} (head : List X → Bool → Piece) (left rest : List X) (n : ℕ) (old new : Draft)
    (more : Bool) → GivesBatch head left n rest old new more → (0 < length left → FitsMessage head left old 1) → 0 < n
    → 0 < length left → length rest < length left
moves-on head left rest n old new more g one asked some =
    let least = g.puts.is_batch.greatest 1 (omega (arith, asked)) (omega (arith, some)) (one some) in
    omega (arith, least, ap length g.rest_is, length-drop g.count left g.puts.is_batch.there)

pub all-dropped : {X : Type 0} (P : X → Type 0) (k : ℕ) (xs : List X) → AllByRecursion P xs
    → AllByRecursion P (drop k xs)
all-dropped P zero xs all = all
all-dropped P (suc k) [] all = all
all-dropped P (suc k) (x ∷ xs) all = all-dropped P k xs all.1

-- what holds of all that were left holds of all that are left
pub all-left : {X : Type 0} (P : X → Type 0) (k : ℕ) (left rest : List X) → rest ≡ drop k left
    → AllByRecursion P left → AllByRecursion P rest
all-left P k left rest r all = subst (AllByRecursion P) (sym r) (all-dropped P k left all)

-- ---- one item fits

one-row : (p : Piece) (order : Order) (place : ℕ) → length (row (p ∷ []) order place) ≡ length (p order place)
one-row p order place = length-append (p order place) []
    ∙ (let none : length (p order place) + 0 ≡ length (p order place) = omega arith in none)

module _ {X : Type 0} (write : X → Piece) (x : X) (xs : List X) (old : Draft)
    (start : length old.bytes ≡ REPLY_START) (small : (place : ℕ) → length (write x old.order place) ≤ 12582912) where
  one-counted : (place : ℕ) → length (count_before write (x ∷ []) old.order place) ≤ 12582919
  one-counted place =
      let inner = place + (gap 4 place + 4) in
      omega (arith, counted-length write (x ∷ []) old.order place, one-row (write x) old.order inner, small inner)

  pub first-one : (last : Bool → Piece) → ((b : Bool) (place : ℕ) → length (last b old.order place) ≤ 4300)
      → FitsMessage (first_piece write last) (x ∷ xs) old 1
  first-one last short =
      let here = length old.bytes in
      let front = count_before write (x ∷ []) old.order here in
      let b = is_nonempty xs in
      omega (
        arith,
        start,
        one-counted here,
        short b (here + length front),
        length-append front (last b old.order (here + length front)),
      )

  pub next-one : (truth : Truth) → FitsMessage (next_piece truth write) (x ∷ xs) old 1
  next-one truth =
      let here = length old.bytes in
      let b = content truth true (is_nonempty xs) in
      let front = (number_format 1).writes (from_bool b) old.order here in
      omega (
        arith,
        start,
        number-length 1 old.order here (from_bool b),
        one-counted (here + length front),
        length-append front (count_before write (x ∷ []) old.order (here + length front)),
      )

-- an offer of at most 6 MiB, written big-endian from place 0, is short
pub offer-small : (o : Offer) → length (offer.format.writes o Big 0) ≤ 6291456 → IsShort offer.format.writes o
offer-small o small order place = omega (arith, small, (offer-steady o).long order Big place 0)

pub ids-short : (ids : List (List ℕ)) → AreSmallIds ids → AreShort text.format.writes ids
ids-short [] all = all
ids-short (id ∷ ids) all = (
  λ order place. (let small = all.0 in omega (arith, small, text-length id order place)),
  ids-short ids all.1,
)

either-small : (iterator : Ior) → IsSmallReference iterator → (b : Bool) → IsSmallReference (given_or_nil iterator b)
either-small iterator small true = small
either-small iterator small false = nil-small

module _ (iterator : Ior) (named : IsSmallReference iterator) where
  pub found-one : (limits : List (List ℕ)) (left : List Offer) (old : Draft) → length old.bytes ≡ REPLY_START
      → AreSmallOffers left → AreLimits limits → 0 < length left → FitsMessage (offers_found iterator limits) left old 1
  found-one limits [] old start all small some = absurd (let no : ⊥ = omega (arith, some) in no)
  found-one limits (o ∷ left) old start all small some =
      first-one offer.format.writes o left old start (all.0 old.order)
      (λ (b : Bool). ending limits (given_or_nil iterator b)) (λ b. ending-short limits (given_or_nil iterator b)
      small (either-small iterator named b) old.order)

  pub items-one : {X : Type 0} (write : X → Piece) (left : List X) (old : Draft) → length old.bytes ≡ REPLY_START
      → AreShort write left → 0 < length left → FitsMessage (items_found write iterator) left old 1
  items-one write [] old start all some = absurd (let no : ⊥ = omega (arith, some) in no)
  items-one write (x ∷ left) old start all some =
      first-one write x left old start (all.0 old.order) (λ (b : Bool). reference.format.writes
      (given_or_nil iterator b))
      (λ b place. (let short = reference-short (given_or_nil iterator b) (either-small iterator named b) old.order
      place in omega (arith, short)))

pub next-items-one : {X : Type 0} (truth : Truth) (write : X → Piece) (left : List X) (old : Draft)
    → length old.bytes ≡ REPLY_START → AreShort write left → 0 < length left
    → FitsMessage (next_piece truth write) left old 1
next-items-one truth write [] old start all some = absurd (let no : ⊥ = omega (arith, some) in no)
next-items-one truth write (x ∷ left) old start all some = next-one write x left old start (all.0 old.order) truth

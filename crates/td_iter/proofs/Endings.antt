-- What stands behind the items of a first batch.
use Rattle.std.proofs.Common.{◌≡◌, ℕ, ◌+◌, ◌*◌, ◌%◌, ◌≤◌, Bool, true, false, if◌then◌else◌, List, [], ◌∷◌, ◌++◌, length}
use Rattle.std.proofs.Common.{map, take, drop, refl, sym, ap, subst, ◌∙◌, arith, length-append, append_assoc}
use Rattle.std.specs.List.{AllByRecursion}
use Rattle.td_cdr.specs.declared.order.Order.{Order}
use Rattle.td_cdr.specs.declared.order.Order.TheVariants.{Big, Little}
use Rattle.td_cdr.specs.Format.{Piece, ◌then◌, row}
use Rattle.td_cdr.specs.Gap.{gap}
use Rattle.td_cdr.specs.Sound.{◌&◌, sequence, text}
use Rattle.td_cdr.specs.Writing.{Draft}
use Rattle.td_typecode.specs.declared.reference.Ior.{Ior}
use Rattle.td_typecode.specs.Formats.{is_nonempty}
use Rattle.td_typecode.specs.References.{reference}
use Rattle.td_iter.specs.declared.limits.TheConstants.{LARGEST_MESSAGE, REPLY_START}
use Rattle.td_iter.specs.declared.filling.Tail.{Tail}
use Rattle.td_iter.specs.Batches.{PutsBatch, batch}
use Rattle.td_iter.specs.Filling.{behind, reach, end_of, Fills, count_before, first_piece}
use Rattle.td_iter.specs.Heads.{nil, given_or_nil, IsLimit, AreLimits, IsSmallReference, hop_count, link_follow_rule}
use Rattle.td_iter.specs.Heads.{match_card, return_card, search_card}
use Rattle.td_iter.proofs.Greatest.{greatest_of_same}
use Rattle.td_iter.proofs.Lengths.{Aligned, then-aligned, text-aligned, counted-aligned, reference-aligned}
use Rattle.td_iter.proofs.Lengths.{octets-length}
use Rattle.td_iter.proofs.Counting.{counted-length}

module _ {X : Type 0} (write : X → Piece) (last : Bool → Piece) (aligned : (b : Bool)
    → Aligned (last b)) (items : List X) (tail : Tail) where
  size-of : (om od : Order) (pm pd : ℕ) → pm % 4 ≡ 0 → pd % 4 ≡ 0 → tail.more ≡ length (last true om pm)
      → tail.done ≡ length (last false od pd)
      → (b : Bool) (order : Order) (here : ℕ) → reach here (behind tail b) ≡ here + length (last b order here)
  size-of om od pm pd em ed m d true order here = omega (arith, m, (aligned true).long order om here pm em)
  size-of om od pm pd em ed m d false order here = omega (arith, d, (aligned false).long order od here pd ed)

  -- a message with the first j ends where it does
  first-end : (old mid : Draft) → mid.bytes ≡ old.bytes → mid.order ≡ old.order
      → ((b : Bool) (order : Order) (here : ℕ) → reach here (behind tail b) ≡ here + length (last b order here))
      → (j : ℕ)
      → reach (end_of (count_before write) tail items mid j) (behind tail (is_nonempty (drop j items))) ≡ length old.bytes +
      length (batch (first_piece write last) items j old.order (length old.bytes))
  first-end old mid e o sizes j =
      let b = is_nonempty (drop j items) in
      let here = length old.bytes in
      let front = count_before write (take j items) old.order here in
      let same : end_of (count_before write) tail items mid j ≡ here + length front =
      ap (λ (bytes : List ℕ). length bytes + length (count_before write (take j items) mid.order (length bytes))) e
      ∙ ap (λ (r : Order). here + length (count_before write (take j items) r here)) o in
      ap (λ (end : ℕ). reach end (behind tail b)) same ∙ sizes b old.order (here + length front)
      ∙ (let whole : (here + length front) + length (last b old.order (here + length front)) ≡ here + length
      (front ++ last b old.order (here + length front)) =
      omega (arith, length-append front (last b old.order (here + length front))) in whole)

  pub first-puts : (old mid now new : Draft) (n k : ℕ) (om od : Order) (pm pd : ℕ) → pm % 4 ≡ 0 → pd % 4 ≡ 0
      → tail.more ≡ length (last true om pm) → tail.done ≡ length (last false od pd)
      → mid.bytes ≡ old.bytes → mid.order ≡ old.order → Fills (count_before write) tail items mid n now k
      → now.order ≡ mid.order
      → new.bytes ≡ now.bytes ++ last (is_nonempty (drop k items)) now.order (length now.bytes)
      → PutsBatch (first_piece write last) items n old new k
  first-puts old mid now new n k om od pm pd em ed m d e o f p put =
      let b = is_nonempty (drop k items) in
      let here = length old.bytes in
      let front = count_before write (take k items) old.order here in
      let ends = first-end old mid e o (size-of om od pm pd em ed m d) in
      let held : now.bytes ≡ old.bytes ++ front =
      f.bytes ∙ ap (λ (bytes : List ℕ). bytes ++ count_before write (take k items) mid.order (length bytes)) e
      ∙ ap (λ (r : Order). old.bytes ++ count_before write (take k items) r here) o in
      record {
        is_batch = greatest_of_same (λ j h. subst (λ (end : ℕ). end ≤ LARGEST_MESSAGE) (ends j) h)
            (λ j h. subst (λ (end : ℕ). end ≤ LARGEST_MESSAGE) (sym (ends j)) h) f.is_greatest;
        bytes = put ∙ ap (λ (r : Order). now.bytes ++ last b r (length now.bytes)) (p ∙ o)
            ∙ ap (λ (bytes : List ℕ). bytes ++ last b old.order (length bytes)) held
            ∙ append_assoc old.bytes front (last b old.order (length (old.bytes ++ front)))
            ∙ ap (λ (end : ℕ). old.bytes ++ (front ++ last b old.order end)) (length-append old.bytes front);
      }

-- ---- how long it is

limit-short : (name : List ℕ) → IsLimit name → length name ≤ 17
limit-short name (hop_count e) = subst (λ (n : List ℕ). length n ≤ 17) (sym e) (omega arith)
limit-short name (link_follow_rule e) = subst (λ (n : List ℕ). length n ≤ 17) (sym e) (omega arith)
limit-short name (match_card e) = subst (λ (n : List ℕ). length n ≤ 17) (sym e) (omega arith)
limit-short name (return_card e) = subst (λ (n : List ℕ). length n ≤ 17) (sym e) (omega arith)
limit-short name (search_card e) = subst (λ (n : List ℕ). length n ≤ 17) (sym e) (omega arith)

pub text-length : (v : List ℕ) (order : Order) (place : ℕ)
    → length (text.format.writes v order place) ≡ gap 4 place + 5 + length v
text-length v order place = octets-length order place (v ++ 0 ∷ []) ∙ (let n = length-append v (0 ∷ []) in
    omega (arith, n))

limits-short : (names : List (List ℕ)) → AllByRecursion IsLimit names → (order : Order) (place : ℕ)
    → length (row (map text.format.writes names) order place) ≤ 25 * length names
limits-short [] all order place = omega arith
limits-short (name ∷ names) all order place =
    let first = text.format.writes name order place in
    omega (
      arith,
      limit-short name all.0,
      text-length name order place,
      limits-short names all.1 order (place + length first),
      length-append first (row (map text.format.writes names) order (place + length first)),
    )

abbrev pub ending : List (List ℕ) → Ior → Piece
ending limits r = (reference & sequence text).format.writes (r, limits)

pub ending-aligned : (limits : List (List ℕ)) (r : Ior) → Aligned (ending limits r)
ending-aligned limits r = then-aligned (reference.format.writes r) (count_before text.format.writes limits)
    (reference-aligned r) (counted-aligned text.format.writes text-aligned limits)

pub nil-small : IsSmallReference nil
nil-small = (let size : length (reference.format.writes nil Big 0) ≡ 12 = refl in omega (arith, size))

pub reference-short : (r : Ior) → IsSmallReference r → (order : Order) (place : ℕ)
    → length (reference.format.writes r order place) ≤ 4099
reference-short r small order place = omega (arith, small, (reference-aligned r).long order Big place 0 refl)

pub ending-short : (limits : List (List ℕ)) (r : Ior) → AreLimits limits → IsSmallReference r
    → (order : Order) (place : ℕ) → length (ending limits r order place) ≤ 4300
ending-short limits r named small order place =
    let first = reference.format.writes r order place in
    let next = place + length first in
    omega (
      arith,
      named.few,
      reference-short r small order place,
      length-append first (count_before text.format.writes limits order next),
      counted-length text.format.writes limits
          order next,
      limits-short limits named.each order (next + (gap 4 next + 4)),
    )

pub picked : (b : Bool) (r iterator other : Ior) → r ≡ (if b then iterator else other) → other ≡ nil
    → r ≡ given_or_nil iterator b
picked true r iterator other e o = e
picked false r iterator other e o = e ∙ o

-- the nil reference and no limits, where a reply's result begins
without-limits-at : (o : Order) → 16 ≡ length ((reference & sequence text).format.writes (nil, []) o REPLY_START)
without-limits-at Big = refl
without-limits-at Little = refl

pub without_limits : (o : Order) (place : ℕ) (r : Ior) (limits : List (List ℕ)) → place ≡ REPLY_START → r ≡ nil
    → limits ≡ [] → 16 ≡ length ((reference & sequence text).format.writes (r, limits) o place)
without_limits o place r limits p e l = rw (p, e, l) (without-limits-at o)

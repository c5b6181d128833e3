-- Bounds of offers, wherever they stand.
use Rattle.std.proofs.Common.{◌≡◌, ℕ, ◌+◌, ◌*◌, ◌≤◌, Bool, true, false, cond, List, [], ◌∷◌, length, map, refl, ap, ◌∙◌, arith}
use Rattle.std.proofs.Common.{length-append, Option, Some, None, option_map}
use Rattle.std.specs.List.{AllByRecursion, cons_option, filter_map, find}
use Rattle.std.specs.Option.{option_and_then}
use Rattle.std.specs.Str.{bytes_eq}
use Rattle.td_cdr.specs.declared.order.Order.{Order}
use Rattle.td_cdr.specs.declared.order.Order.TheVariants.{Big}
use Rattle.td_cdr.specs.Format.{row}
use Rattle.td_cdr.specs.Gap.{gap}
use Rattle.td_cdr.specs.Sound.{text}
use Rattle.td_typecode.specs.References.{reference}
use Rattle.td_typecode.specs.Values.{any_value}
use Rattle.td_typecode.specs.declared.code.Any.{Any}
use Rattle.td_iter.specs.Filling.{count_before}
use Rattle.td_iter.specs.Heads.{IsShort}
use Rattle.td_iter.proofs.Counting.{counted-length}
use Rattle.td_iter.proofs.Lengths.{reference-steady}
use Rattle.td_iter.proofs.Steadiness.{anys-steady, property-steady}
use Rattle.td_store.specs.Candidates.{is_dynamic}
use Rattle.td_store.specs.Stores.{most_bytes, most_properties, offer_bytes}
use Rattle.td_store.specs.declared.record.OfferRecord.{OfferRecord}
use Rattle.td_trader.specs.OfferLimits.{IsWithinLimits}
use Rattle.td_types.proofs.Sequences.{each-found}
use Rattle.td_value.specs.Structures.{offer, property}
use Rattle.td_value.specs.declared.structures.Offer.{Offer}
use Rattle.td_value.specs.declared.structures.Property.{Property}
use Rattle.td_walk.specs.Answers.{offer_of}
use Rattle.td_walk.specs.Resolving.{evaluation_of, longest_value, resolved, resolved_property, resolved_value}
use Rattle.td_walk.specs.declared.evaluation.Evaluation.{Evaluation}
use Rattle.td_walk.specs.declared.found.Found.{Found}
use Rattle.td_size_laws.specs.Bounds.{Fit, IsBounded, IsWithin}
use Rattle.td_size_laws.specs.SizeLaws.{BoundedOffersAreShort}

-- ---- rows of properties

abbrev rows : List Property → Order → ℕ → List ℕ
rows ps order place = row (map property.format.writes ps) order place

fit-row : (ps : List Property) (n : ℕ) → Fit ps n → (order : Order) (place : ℕ) → length (rows ps order place) ≤ n
fit-row [] n h order place = omega arith
fit-row (p ∷ ps) n h order place =
    let here = property.format.writes p order place in
    let first = h.2 order place in
    let rest = fit-row ps h.1 h.3 order (place + length here) in
    let both = h.4 in
    omega (arith, first, rest, both, length-append here (rows ps order (place + length here)))

-- each property is at most twice as long wherever it stands
fit-of : (ps : List Property) (order : Order) (place : ℕ) → Fit ps (2 * length (rows ps order place))
fit-of [] order place = tt
fit-of (p ∷ ps) order place =
    let here = property.format.writes p order place in
    let behind = rows ps order (place + length here) in (
      2 * length here,
      2 * length behind,
      λ o at. (property-steady p).long o order at place,
      fit-of ps order (place + length here),
      omega (arith, length-append here behind),
    )

pub fit-more : (ps : List Property) (n m : ℕ) → Fit ps n → n ≤ m → Fit ps m
fit-more [] n m h le = tt
fit-more (p ∷ ps) n m h le =
    let both = h.4 in (h.0, h.1, h.2, h.3, omega (arith, both, le))

-- ---- what may be there

abbrev pub IfThere : {X : Type 0} → (X → Type 0) → Option X → Type 0
IfThere P None = Unit {0}
IfThere P (Some x) = P x

if-there : {X : Type 0} (P : X → Type 0) (o : Option X) → ((x : X) → o ≡ Some x → P x) → IfThere P o
if-there P None h = tt
if-there P (Some x) h = h x refl

-- ---- resolved properties

abbrev pub IsShortValue : Any → Type 0
IsShortValue v = length (any_value.format.writes v Big 0) ≤ longest_value

-- the value that was evaluated, if there is one, has at most 16 KiB
abbrev pub IsShortEvaluation : Evaluation → Type 0
IsShortEvaluation e = IfThere IsShortValue e.value

abbrev pub AreShortEvaluations : List Evaluation → Type 0
AreShortEvaluations made = AllByRecursion IsShortEvaluation made

-- with another value, of at most 16 KiB
with-value : (p : Property) (k : ℕ) (v : Any) → IsWithin k (property.format.writes p) → IsShortValue v
    → IsWithin (k + 32768) (property.format.writes (record { name = p.name; value = v }))
with-value p k v h short order place =
    let name = text.format.writes p.name order place in
    let before = h order place in
    let old = any_value.format.writes p.value order (place + length name) in
    let new = any_value.format.writes v order (place + length name) in
    let twice = (anys-steady 16 v).long order Big (place + length name) 0 in
    omega (arith, before, short, twice, length-append name old, length-append name new)

value-left : (p : Property) (k : ℕ) (o : Option Evaluation) → IsWithin k (property.format.writes p)
    → IfThere IsShortEvaluation o
    → IfThere (λ v. IsWithin (k + 32768) (property.format.writes (record { name = p.name; value = v })))
    (option_and_then (λ e. e.value) o)
value-left p k None h short = tt
value-left p k (Some e) h short = by e.value short
  where
    by : (o : Option Any) → IfThere IsShortValue o
        → IfThere (λ v. IsWithin (k + 32768) (property.format.writes (record { name = p.name; value = v }))) o
    by None short = tt
    by (Some v) short = with-value p k v h short

value-when : {X : Type 0} (P : X → Type 0) (b : Bool) (o : Option X) (x : X) → IfThere P o → P x
    → IfThere P (cond b o (Some x))
value-when P true o x h k = h
value-when P false o x h k = k

kept-within : (p : Property) (k : ℕ) → IsWithin k (property.format.writes p)
    → IsWithin (k + 32768) (property.format.writes p)
kept-within p k h order place = let before = h order place in omega (arith, before)

value-named : (p : Property) (k : ℕ) (o : Option Any)
    → IfThere (λ v. IsWithin k (property.format.writes (record { name = p.name; value = v }))) o
    → IfThere (λ q. IsWithin k (property.format.writes q)) (option_map (λ v. record { name = p.name; value = v }) o)
value-named p k None h = tt
value-named p k (Some v) h = h

property-resolved : (made : List Evaluation) (p : Property) (k : ℕ) → AreShortEvaluations made
    → IsWithin k (property.format.writes p)
    → IfThere (λ q. IsWithin (k + 32768) (property.format.writes q)) (resolved_property made p)
property-resolved made p k short h =
    let found = evaluation_of made p.name in
    value-named p (k + 32768) (resolved_value made p)
    (value-when (λ v. IsWithin (k + 32768) (property.format.writes (record { name = p.name; value = v })))
    (is_dynamic p.value) (option_and_then (λ e. e.value) found) p.value
    (value-left p k found h (if-there IsShortEvaluation found
    (λ e is. each-found IsShortEvaluation (λ e. bytes_eq e.name p.name) made e short is)))
    (kept-within p k h))

fit-cons : (o : Option Property) (ps : List Property) (k m n : ℕ)
    → IfThere (λ q. IsWithin k (property.format.writes q)) o → Fit ps m → k + m ≤ n → Fit (cons_option o ps) n
fit-cons None ps k m n h rest both = fit-more ps m n rest (omega (arith, both))
fit-cons (Some q) ps k m n h rest both = (k, m, h, rest, both)

fit-resolved : (made : List Evaluation) (ps : List Property) (n : ℕ) → AreShortEvaluations made → Fit ps n
    → Fit (filter_map (resolved_property made) ps) (n + 32768 * length ps)
fit-resolved made [] n short h = tt
fit-resolved made (p ∷ ps) n short h =
    let both = h.4 in
    fit-cons (resolved_property made p) (filter_map (resolved_property made) ps) (h.0 + 32768)
    (h.1 + 32768 * length ps) (n + 32768 * length (p ∷ ps)) (property-resolved made p h.0 short h.2)
    (fit-resolved made ps h.1 short h.3) (omega (arith, both))

-- ---- offers

module _ (o : Offer) where
  abbrev front : List ℕ
  front = reference.format.writes o.reference Big 0

  -- where the properties stand
  abbrev base : ℕ
  base = 0 + length front + (gap 4 (0 + length front) + 4)

  whole : length (offer.format.writes o Big 0) ≡ length front + (gap 4 (0 + length front) + 4 + length (rows
      o.properties Big base))
  whole =
      let behind = count_before property.format.writes o.properties Big (0 + length front) in
      length-append front behind
      ∙ ap (λ (n : ℕ). length front + n) (counted-length property.format.writes o.properties Big (0 + length front))

  -- at most 6 MiB, big-endian from place 0
  pub small-bounded : length (offer.format.writes o Big 0) ≤ 6291456 → IsBounded o
  small-bounded small = record {
    reference_bound = 2 * length front;
    properties_bound = 2 * length (rows o.properties Big base);
    reference_within = λ order place. (reference-steady o.reference).long order Big place 0;
    properties_fit = fit-of o.properties Big base;
    together = omega (arith, small, whole);
  }

  -- what is left of an offer of a store
  pub stored-bounded : (made : List Evaluation) → AreShortEvaluations made
      → length (offer.format.writes o Big 0) ≤ 1048576 → length o.properties ≤ 256
      → IsBounded (record { reference = o.reference; properties = resolved made o.properties })
  unfolding resolved
  stored-bounded made short small few = record {
    reference_bound = 2 * length front;
    properties_bound = 2 * length (rows o.properties Big base) + 32768 * length o.properties;
    reference_within = λ order place. (reference-steady o.reference).long order Big place 0;
    properties_fit = fit-resolved made o.properties (2 * length (rows o.properties Big base)) short
        (fit-of o.properties Big base);
    together = omega (arith, small, few, whole);
  }

pub found-bounded : (f : Found) → IsWithinLimits f.offer → AreShortEvaluations f.made → IsBounded (offer_of f)
found-bounded f h short =
    stored-bounded (record { reference = f.offer.reference; properties = f.offer.properties }) f.made short h.bytes
    h.properties

pub bounded_short : BoundedOffersAreShort
bounded_short o h order place =
    let front = reference.format.writes o.reference order place in
    let at = place + length front in
    let behind = count_before property.format.writes o.properties order at in
    let first = h.reference_within order place in
    let rest = fit-row o.properties h.properties_bound h.properties_fit order (at + (gap 4 at + 4)) in
    let both = h.together in
    omega (
      arith,
      first,
      rest,
      both,
      counted-length property.format.writes o.properties order at,
      length-append front behind,
    )

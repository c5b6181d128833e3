-- Offers that match are found by their numbers, and removed one after the other.
use Rattle.std.proofs.Common.{◌≡◌, ℕ, Bool, true, false, not, cond, ◌&&◌, ◌||◌, List, [], ◌∷◌, map, Option, Some}
use Rattle.std.proofs.Common.{refl, sym, ap, ◌∙◌, inl, inr}
use Rattle.std.specs.Prelude.{filter, is_some}
use Rattle.std.specs.List.{AllByRecursion, list_any}
use Rattle.std.proofs.lemmas.Bool.{and_left, cases_Bool, eq-eqb, eqb-true, or_left, or_right}
use Rattle.td_eval.specs.Values.{matches_constraint}
use Rattle.td_lang.specs.declared.expr.Constraint.{Constraint}
use Rattle.td_types.specs.Conforming.{conforms}
use Rattle.td_types.specs.declared.entry.ServiceType.{ServiceType}
use Rattle.td_store.specs.Candidates.{belongs, has_conforming_type}
use Rattle.td_store.specs.OfferLists.{NumbersRise, is_numbered, offer_of, without_offer}
use Rattle.td_store.specs.declared.record.OfferRecord.{OfferRecord}
use Rattle.td_store.proofs.Mixing.{filter-yes, filter-no}
use Rattle.td_store.proofs.Ordering.{found-each}
use Rattle.td_register.specs.Registers.{is_met, static_properties}
use Rattle.td_modify.specs.Withdrawals.{meets, without_offers}

abbrev pub numbers_in : List OfferRecord → List ℕ
numbers_in os = map (λ (o : OfferRecord). o.number) os

-- each of them is found by its number
abbrev AreThere : List OfferRecord → List OfferRecord → Type 0
AreThere os xs = AllByRecursion (λ (o : OfferRecord). offer_of os o.number ≡ Some o) xs

-- ---- tests

both-ways : (a b : Bool) → (a ≡ true → b ≡ true) → (b ≡ true → a ≡ true) → a ≡ b
both-ways true b f g = sym (f refl)
both-ways false true f g = g refl
both-ways false false f g = refl

regrouped : (a b c d : Bool) → (a && b && c && d) ≡ ((b && c) && (a && d))
regrouped true true true d = refl
regrouped true true false d = refl
regrouped true false c d = refl
regrouped false true true d = refl
regrouped false true false d = refl
regrouped false false c d = refl

true-and : (a b : Bool) → a ≡ true → (a && b) ≡ b
true-and a b h = rw h refl

filter-same : (f g : OfferRecord → Bool) (xs : List OfferRecord) → AllByRecursion (λ o. f o ≡ g o) xs →
    filter f xs ≡ filter g xs
filter-same f g [] h = refl
filter-same f g (x ∷ xs) h = rw (h.0, filter-same f g xs h.1) refl

kept-too : (b : Bool) (o : OfferRecord) (xs ys : List OfferRecord) → xs ≡ ys → cond b (o ∷ xs) xs ≡ cond b (o ∷ ys) ys
kept-too true o xs ys h = ap (λ (zs : List OfferRecord). o ∷ zs) h
kept-too false o xs ys h = h

some-same : (x y : OfferRecord) → ◌≡◌ {A = Option OfferRecord} (Some x) (Some y) → x ≡ y
some-same x y h = cc

-- ---- matching

module _ (types : List ServiceType) (name : List ℕ) (c : Constraint) where
  abbrev conforming : OfferRecord → Bool
  conforming o = has_conforming_type types name o

  abbrev met : OfferRecord → Bool
  met o = is_met types name c o

  met-is : (o : OfferRecord) → met o ≡ (conforming o && meets c o)
  met-is o =
      regrouped (not (is_some o.proxy)) (belongs types o) (conforms types o.service_type name) (matches_constraint
      (static_properties o.properties) c)

  -- those that match among those whose type conforms
  pub met-within : (os : List OfferRecord) → filter (meets c) (filter conforming os) ≡ filter met os
  met-within [] = refl
  met-within (o ∷ os) =
      elim (cases_Bool (conforming o)) [
        | inl so ↦
            let same : met o ≡ meets c o = met-is o ∙ true-and (conforming o) (meets c o) so in
            rw (filter-yes conforming o os so, same) (kept-too (meets c o) o (filter (meets c) (filter conforming os))
            (filter met os) (met-within os))
        | inr isnt ↦
            let out : met o ≡ false = met-is o ∙ and_left (conforming o) (meets c o) isnt in
            rw (filter-no conforming o os isnt, out) (met-within os)
      ]

-- ---- removing

-- the offer has one of these numbers
abbrev has_one : List ℕ → OfferRecord → Bool
has_one ns o = list_any (λ n. is_numbered n o) ns

out-of-none : (os : List OfferRecord) → filter (λ o. not (has_one [] o)) os ≡ os
out-of-none [] = refl
out-of-none (o ∷ os) = ap (λ (xs : List OfferRecord). o ∷ xs) (out-of-none os)

one-by-one : (n : ℕ) (ns : List ℕ) (os : List OfferRecord) →
    filter (λ o. not (has_one ns o)) (without_offer n os) ≡ filter (λ o. not (has_one (n ∷ ns) o)) os
one-by-one n ns [] = refl
one-by-one n ns (o ∷ os) =
    elim (cases_Bool (is_numbered n o)) [
      | inl so ↦ rw so (one-by-one n ns os)
      | inr isnt ↦
          rw isnt (kept-too (not (has_one ns o)) o (filter (λ o. not (has_one ns o)) (without_offer n os))
          (filter (λ o. not (has_one (n ∷ ns) o)) os) (one-by-one n ns os))
    ]

without-is : (ns : List ℕ) (os : List OfferRecord) → without_offers ns os ≡ filter (λ o. not (has_one ns o)) os
without-is [] os = sym (out-of-none os)
without-is (n ∷ ns) os = without-is ns (without_offer n os) ∙ one-by-one n ns os

module _ (p : OfferRecord → Bool) where
  has_more : (x : OfferRecord) (xs : List OfferRecord) (o : OfferRecord) →
      has_one (numbers_in (filter p xs)) o ≡ true → has_one (numbers_in (filter p (x ∷ xs))) o ≡ true
  has_more x xs o h =
      elim (cases_Bool (p x)) [
        | inl so ↦
            rw (filter-yes p x xs so)
            (or_right (is_numbered x.number o) (has_one (numbers_in (filter p xs)) o) h)
        | inr isnt ↦ rw (filter-no p x xs isnt) h
      ]

  has_first : (x : OfferRecord) (xs : List OfferRecord) → p x ≡ true →
      has_one (numbers_in (filter p (x ∷ xs))) x ≡ true
  has_first x xs so =
      rw (filter-yes p x xs so)
      (or_left (is_numbered x.number x) (has_one (numbers_in (filter p xs)) x) (eq-eqb x.number x.number refl))

  abbrev HaveOwn : List ℕ → List OfferRecord → Type 0
  HaveOwn ns xs = AllByRecursion (λ (o : OfferRecord). p o ≡ true → has_one ns o ≡ true) xs

  own_more : (x : OfferRecord) (xs ys : List OfferRecord) → HaveOwn (numbers_in (filter p xs)) ys →
      HaveOwn (numbers_in (filter p (x ∷ xs))) ys
  own_more x xs [] h = tt
  own_more x xs (y ∷ ys) h = (λ so. has_more x xs y (h.0 so), own_more x xs ys h.1)

  have_own : (xs : List OfferRecord) → HaveOwn (numbers_in (filter p xs)) xs
  have_own [] = tt
  have_own (x ∷ xs) = (has_first x xs, own_more x xs xs (have_own xs))

  module _ (os : List OfferRecord) where
    one-number : (x o : OfferRecord) → offer_of os x.number ≡ Some x → offer_of os o.number ≡ Some o →
        is_numbered x.number o ≡ true → x ≡ o
    one-number x o hx ho same = some-same x o (sym hx ∙ (ap (offer_of os) (sym (eqb-true o.number x.number same)) ∙ ho))

    only_own : (xs : List OfferRecord) (o : OfferRecord) → AreThere os xs → offer_of os o.number ≡ Some o →
        has_one (numbers_in (filter p xs)) o ≡ true → p o ≡ true
    only_own [] o h ho has = absurd cc
    only_own (x ∷ xs) o h ho has =
        elim (cases_Bool (p x)) [
          | inl so ↦
              let either : (is_numbered x.number o || has_one (numbers_in (filter p xs)) o) ≡ true = rw (filter-yes p x
              xs so) at has in
              elim (cases_Bool (is_numbered x.number o)) [
                | inl same ↦ ap p (sym (one-number x o h.0 ho same)) ∙ so
                | inr other ↦ only_own xs o h.1 ho (rw other at either)
              ]
          | inr isnt ↦ only_own xs o h.1 ho (rw (filter-no p x xs isnt) at has)
        ]

    are_own : (xs : List OfferRecord) → AreThere os os → AreThere os xs → HaveOwn (numbers_in (filter p os)) xs →
        AllByRecursion (λ o. not (has_one (numbers_in (filter p os)) o) ≡ not (p o)) xs
    are_own [] all h own = tt
    are_own (x ∷ xs) all h own = (
      ap not (both-ways (has_one (numbers_in (filter p os)) x) (p x) (only_own os x all h.0) own.0),
      are_own xs all
          h.1 own.1,
    )

    -- where numbers rise, those that pass are taken away one after the other, and the others stay
    pub others-left : NumbersRise os → without_offers (numbers_in (filter p os)) os ≡ filter (λ o. not (p o)) os
    others-left rise =
        let there = found-each os rise in
        without-is (numbers_in (filter p os)) os
        ∙ filter-same (λ o. not (has_one (numbers_in (filter p os)) o)) (λ o. not (p o)) os (are_own os there there
        (have_own os))

  -- ---- none

  pub none-passes : (os : List OfferRecord) → numbers_in (filter p os) ≡ [] → list_any p os ≡ false
  none-passes [] h = refl
  none-passes (o ∷ os) h =
      elim (cases_Bool (p o)) [
        | inl so ↦
            let bad : ◌≡◌ {A = List ℕ} (o.number ∷ numbers_in (filter p os)) [] = rw (filter-yes p o os so) at h in
            absurd cc
        | inr isnt ↦ rw isnt (none-passes os (rw (filter-no p o os isnt) at h))
      ]

  all-fail : (os : List OfferRecord) → list_any p os ≡ false → numbers_in (filter p os) ≡ []
  all-fail [] h = refl
  all-fail (o ∷ os) h =
      elim (cases_Bool (p o)) [
        | inl so ↦ let bad : true ≡ false = rw so at h in absurd cc
        | inr isnt ↦ rw (filter-no p o os isnt) (all-fail os (rw isnt at h))
      ]

  pub one-passes : (os : List OfferRecord) → (numbers_in (filter p os) ≡ [] → ⊥) → list_any p os ≡ true
  one-passes os h =
      elim (cases_Bool (list_any p os)) [
        | inl so ↦ so
        | inr isnt ↦ absurd (h (all-fail os isnt))
      ]

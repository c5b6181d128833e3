-- The candidates stand on the chains that a query walks, and few others do.
use Rattle.std.proofs.Common.{◌≡◌, ℕ, ◌+◌, ◌-◌, ◌<◌, ◌≤◌, Bool, true, false, cond, ◌||◌, ◌&&◌, eqb, nat_eq, inl, inr}
use Rattle.std.proofs.Common.{List, [], ◌∷◌, ◌++◌, length, map, take, drop, get_or, suc, Option, None, Some, refl, sym}
use Rattle.std.proofs.Common.{ap, ◌∙◌, subst, arith}
use Rattle.std.specs.List.{filter, find, list_any}
use Rattle.std.specs.Str.{bytes_eq}
use Rattle.std.proofs.lemmas.Bool.{cases_Bool, or_left, or_right, or_cases, and_parts, and_from, eqb-true, eq-eqb}
use Rattle.std.proofs.lemmas.Bool.{ne_eqb, false≢true}
use Rattle.std.proofs.lemmas.List.{length_push, append_assoc, drop_more, map-append}
use Rattle.td_types.specs.Conforming.{conforms, subtypes, ancestors}
use Rattle.td_types.specs.Laws.{RisesAbove}
use Rattle.td_types.specs.Repository.{incarnation_in, incarnation_of, has_type, is_named}
use Rattle.td_types.specs.Repository.{is_among as is_name_among}
use Rattle.td_types.specs.declared.entry.ServiceType.{ServiceType}
use Rattle.td_types.proofs.Equal.{bytes_same, bytes_refl}
use Rattle.td_policy.specs.declared.attributes.Attributes.{Attributes}
use Rattle.td_policy.specs.declared.stated.Stated.{Stated}
use Rattle.td_store.specs.Candidates.{is_incarnation, belongs, is_exact, is_asked, has_asked_type, is_used}
use Rattle.td_store.specs.Candidates.{is_candidate, candidates, is_among, most_steps}
use Rattle.td_store.specs.Candidates.{has_conforming_type}
use Rattle.td_store.specs.OfferLists.{is_of}
use Rattle.td_store.specs.Searches.{AreDistinct, only, searched_types}
use Rattle.td_store.specs.declared.record.OfferRecord.{OfferRecord}
use Rattle.td_store.proofs.Mixing.{filter-yes, filter-no, passes-none}

-- ---- two tests

-- what passes p passes q as well
pub filter-within : {X : Type 0} (p q : X → Bool) → ((x : X) → p x ≡ true → q x ≡ true) → (xs : List X)
    → filter p (filter q xs) ≡ filter p xs
filter-within p q h [] = refl
filter-within {X} p q h (x ∷ xs) =
    elim (cases_Bool (q x)) [
      | inl y ↦ rw (filter-yes q x xs y) (ap (λ (t : List X). cond (p x) (x ∷ t) t) (filter-within p q h xs))
      | inr n ↦ elim (cases_Bool (p x)) [
        | inl w ↦ absurd (false≢true (sym n ∙ h x w))
        | inr m ↦ rw (filter-no q x xs n) (filter-within p q h xs ∙ sym (filter-no p x xs m))
      ]
    ]

pub filter-more : {X : Type 0} (p q : X → Bool) → ((x : X) → p x ≡ true → q x ≡ true) → (xs : List X)
    → length (filter p xs) ≤ length (filter q xs)
filter-more p q h [] = omega arith
filter-more p q h (x ∷ xs) =
    let rest = filter-more p q h xs in
    elim (cases_Bool (p x)) [
      | inl y ↦ rw (filter-yes p x xs y, filter-yes q x xs (h x y)) (omega (arith, rest))
      | inr n ↦ elim (cases_Bool (q x)) [
        | inl y ↦ rw (filter-no p x xs n, filter-yes q x xs y) (omega (arith, rest))
        | inr m ↦ rw (filter-no p x xs n, filter-no q x xs m) rest
      ]
    ]

-- ---- the types that are searched

pub has-incarnation : (i : ℕ) (o : Option ℕ) → is_incarnation i o ≡ true → o ≡ Some i
has-incarnation i None e = absurd (false≢true e)
has-incarnation i (Some j) e = ap (λ (n : ℕ). Some n) (eqb-true j i e)

same-incarnation : (t : ServiceType) (i : ℕ) → ◌≡◌ {A = Option ℕ} (Some t.incarnation) (Some i) → i ≡ t.incarnation
same-incarnation t i e = cc

-- the first of a name, if it conforms, is among all that conform
first-listed : (test : ServiceType → Bool) (name : List ℕ) (i : ℕ) (ts : List ServiceType)
    → ((t : ServiceType) → t.name ≡ name → test t ≡ true) → incarnation_in (find (is_named name) ts) ≡ Some i
    → list_any (nat_eq i) (map (λ t. t.incarnation) (filter test ts)) ≡ true
first-listed test name i [] passes e = absurd (let bad : ⊥ = cc in bad)
first-listed test name i (t ∷ ts) passes e =
    elim (cases_Bool (is_named name t)) [
      | inl y ↦
          let here : ◌≡◌ {A = Option ℕ} (Some t.incarnation) (Some i) =
          sym (ap (λ b. incarnation_in (cond b (Some t) (find (is_named name) ts))) y) ∙ e in
          rw (filter-yes test t ts (passes t (bytes_same t.name name y)))
          (or_left (eqb i t.incarnation) (list_any (nat_eq i) (map (λ t. t.incarnation) (filter test ts)))
          (eq-eqb i t.incarnation (same-incarnation t i here)))
      | inr n ↦
          let later : incarnation_in (find (is_named name) ts) ≡ Some i =
          sym (ap (λ b. incarnation_in (cond b (Some t) (find (is_named name) ts))) n) ∙ e in
          let rest = first-listed test name i ts passes later in
          elim (cases_Bool (test t)) [
            | inl y ↦ rw (filter-yes test t ts y)
                (or_right (eqb i t.incarnation) (list_any (nat_eq i) (map (λ t. t.incarnation) (filter test ts))) rest)
            | inr m ↦ rw (filter-no test t ts m) rest
          ]
    ]

pub conforming-listed : (types : List ServiceType) (asked name : List ℕ) (i : ℕ) → incarnation_of types name ≡ Some i
    → conforms types name asked ≡ true → list_any (nat_eq i) (subtypes types asked) ≡ true
conforming-listed types asked name i e c =
    first-listed (λ t. conforms types t.name asked) name i types (λ t same. rw same c) e

is-there : (name : List ℕ) (i : ℕ) (ts : List ServiceType) → incarnation_in (find (is_named name) ts) ≡ Some i
    → has_type ts name ≡ true
is-there name i [] e = absurd (let bad : ⊥ = cc in bad)
is-there name i (t ∷ ts) e =
    elim (cases_Bool (is_named name t)) [
      | inl y ↦ or_left (is_named name t) (has_type ts name) y
      | inr n ↦ or_right (is_named name t) (has_type ts name)
          (is-there name i ts (sym (ap (λ b. incarnation_in (cond b (Some t) (find (is_named name) ts))) n) ∙ e))
    ]

-- a type that is there conforms to itself
pub conforms-self : (types : List ServiceType) (name : List ℕ) (i : ℕ) → incarnation_of types name ≡ Some i
    → conforms types name name ≡ true
conforms-self types name i e =
    and_from (has_type types name) (bytes_eq name name || is_name_among name (ancestors types name))
    (is-there name i types e)
    (or_left (bytes_eq name name) (is_name_among name (ancestors types name)) (bytes_refl name))

pub asked-conforms : (types : List ServiceType) (exact : Bool) (asked name : List ℕ) (i : ℕ)
    → incarnation_of types name ≡ Some i → is_asked types exact asked name ≡ true → conforms types name asked ≡ true
asked-conforms types true asked name i e h =
    subst (λ (n : List ℕ). conforms types name n ≡ true) (bytes_same name asked h) (conforms-self types name i e)
asked-conforms types false asked name i e h = h

listed-when : (types : List ServiceType) (exact : Bool) (asked : List ℕ) (o : OfferRecord)
    → incarnation_of types o.service_type ≡ Some o.incarnation → is_asked types exact asked o.service_type ≡ true
    → is_among (searched_types types exact asked) o ≡ true
listed-when types true asked o e h =
    let found : incarnation_of types asked ≡ Some o.incarnation =
    ap (incarnation_of types) (sym (bytes_same o.service_type asked h)) ∙ e in
    rw found (or_left (eqb o.incarnation o.incarnation) false (eq-eqb o.incarnation o.incarnation refl))
listed-when types false asked o e h = conforming-listed types asked o.service_type o.incarnation e h

pub asked-listed : (types : List ServiceType) (s : Stated) (asked : List ℕ) (o : OfferRecord)
    → has_asked_type types s asked o ≡ true → is_among (searched_types types (is_exact s) asked) o ≡ true
asked-listed types s asked o h =
    let parts = and_parts (belongs types o) (is_asked types (is_exact s) asked o.service_type) h in
    listed-when types (is_exact s) asked o (has-incarnation o.incarnation (incarnation_of types o.service_type) parts.0)
    parts.1

pub candidate-asked : (types : List ServiceType) (a : Attributes) (s : Stated) (asked : List ℕ) (o : OfferRecord)
    → is_candidate types a s asked o ≡ true → has_asked_type types s asked o ≡ true
candidate-asked types a s asked o h = (and_parts (has_asked_type types s asked o) (is_used types a s o) h).0

-- the candidates among the offers of the searched types are those among all offers
pub same-candidates : (types : List ServiceType) (a : Attributes) (s : Stated) (asked : List ℕ) (count : ℕ)
    (offers : List OfferRecord)
    → candidates types a s asked count (filter (is_among (searched_types types (is_exact s) asked)) offers)
    ≡ candidates types a s asked count offers
same-candidates types a s asked count offers =
    ap (take count) (filter-within (is_candidate types a s asked) (is_among (searched_types types (is_exact s) asked))
    (λ o h. asked-listed types s asked o (candidate-asked types a s asked o h)) offers)

-- ---- how many are searched

some-long : (i : ℕ) (is : List ℕ) → list_any (nat_eq i) is ≡ true → 1 ≤ length is
some-long i [] e = absurd (false≢true e)
some-long i (j ∷ is) e = omega arith

few-when : (types : List ServiceType) (asked : List ℕ) (offers : List OfferRecord) (o : Option ℕ)
    → incarnation_of types asked ≡ o
    → length (only o) + length (filter (is_among (only o)) offers) ≤ most_steps types asked offers
few-when types asked offers None e = rw (passes-none offers) (omega arith)
few-when types asked offers (Some i) e =
    let listed = conforming-listed types asked asked i e (conforms-self types asked i e) in
    let long = some-long i (subtypes types asked) listed in
    let more =
    filter-more (is_among (i ∷ [])) (is_among (subtypes types asked)) (λ o h. elim (or_cases (is_of i o) false h) [
      | inl y ↦ ap (λ z. list_any (nat_eq z) (subtypes types asked)) (eqb-true o.incarnation i y) ∙ listed
      | inr n ↦ absurd (false≢true n)
    ]) offers in
    omega (arith, long, more)

pub few-searched : (types : List ServiceType) (exact : Bool) (asked : List ℕ) (offers : List OfferRecord)
    → length (searched_types types exact asked) + length (filter (is_among (searched_types types exact asked)) offers)
    ≤ most_steps types asked offers
few-searched types true asked offers = few-when types asked offers (incarnation_of types asked) refl
few-searched types false asked offers = omega arith

-- numbers that rise stand apart
above-all : (q low : ℕ) (xs : List ℕ) → q ≤ low → RisesAbove low xs → list_any (nat_eq q) xs ≡ false
above-all q low [] l r = refl
above-all q low (x ∷ xs) l r =
    let b : low < x = r.0 in
    let other : eqb q x ≡ false = ne_eqb q x (λ (e : q ≡ x). absurd (omega (arith, l, b, e))) in
    rw other (above-all q x xs (omega (arith, l, b)) r.1)

pub apart-from_rises : (low : ℕ) (xs : List ℕ) → RisesAbove low xs → AreDistinct xs
apart-from_rises low [] r = tt
apart-from_rises low (x ∷ xs) r = (above-all x x xs (omega arith) r.1, apart-from_rises x xs r.1)

-- ---- one candidate after another

module _ {X : Type 0} (p : X → Bool) (found : List X) (x : X) (xs : List X) (n : ℕ) (room : length found < n) where
  pub one-chosen : p x ≡ true
      → (found ++ x ∷ []) ++ take (n - length (found ++ x ∷ [])) (filter p xs)
      ≡ found ++ take (n - length found) (filter p (x ∷ xs))
  one-chosen y =
      let long : length (found ++ x ∷ []) ≡ length found + 1 = length_push found x in
      let less : n - length found ≡ suc (n - length (found ++ x ∷ [])) = omega (arith, room, long) in
      rw (filter-yes p x xs y, less) (append_assoc found (x ∷ []) (take (n - length (found ++ x ∷ [])) (filter p xs)))

  pub one-passed : p x ≡ false
      → found ++ take (n - length found) (filter p xs) ≡ found ++ take (n - length found) (filter p (x ∷ xs))
  one-passed m = ap (λ (t : List X). found ++ take (n - length found) t) (sym (filter-no p x xs m))

-- a turn over references to what is looked at
module _ {R X : Type 0} (now : R → X) (p : X → Bool) (rows : List R) (i n : ℕ) (row : R) (found after : List X)
    (at : row ≡ get_or rows i row) (within : i < length rows) (room : length found < n)
    (so_far : found ++ take (n - length found) (filter p (map now (drop i rows)))
    ≡ take n (filter p (map now rows))) where
  here : map now (drop i rows) ≡ now row ∷ map now (drop (i + 1) rows)
  here = ap (map now) (drop_more rows i row within ∙ ap (λ r. r ∷ drop (i + 1) rows) (sym at))

  abbrev rest : List X
  rest = map now (drop (i + 1) rows)

  begun : found ++ take (n - length found) (filter p (now row ∷ rest)) ≡ take n (filter p (map now rows))
  begun = ap (λ (t : List X). found ++ take (n - length found) (filter p t)) (sym here) ∙ so_far

  pub turn-chosen : p (now row) ≡ true → after ≡ found ++ now row ∷ []
      → after ++ take (n - length after) (filter p rest) ≡ take n (filter p (map now rows))
  turn-chosen y e = rw e (one-chosen p found (now row) rest n room y ∙ begun)

  pub turn-passed : p (now row) ≡ false → after ≡ found
      → after ++ take (n - length after) (filter p rest) ≡ take n (filter p (map now rows))
  turn-passed m e = rw e (one-passed p found (now row) rest n room m ∙ begun)

-- ---- what the whole walk comes to

pub steps-within : (types : List ServiceType) (exact : Bool) (asked : List ℕ) (offers shown : List OfferRecord)
    (incarnations : List ℕ) (began more : ℕ)
    → incarnations ≡ searched_types types exact asked → offers ≡ shown
    → more ≤ began + length incarnations + length (filter (is_among incarnations) offers)
    → more ≤ began + most_steps types asked shown
steps-within types exact asked offers shown incarnations began more e v h =
    let few = few-searched types exact asked shown in
    let most : more ≤ began + length (searched_types types exact asked)
    + length (filter (is_among (searched_types types exact asked)) shown) =
    subst (λ (is : List ℕ). more ≤ began + length is + length (filter (is_among is) shown)) e
    (subst (λ (os : List OfferRecord).
    more ≤ began + length incarnations + length (filter (is_among incarnations) os))
    v h) in
    omega (arith, few, most)

pub found-same : (types : List ServiceType) (a : Attributes) (s : Stated) (asked : List ℕ) (count : ℕ) (exact : Bool)
    (offers shown chosen : List OfferRecord) (incarnations : List ℕ)
    → incarnations ≡ searched_types types exact asked → exact ≡ is_exact s → offers ≡ shown
    → chosen ≡ filter (is_among incarnations) offers
    → candidates types a s asked count chosen ≡ candidates types a s asked count shown
found-same types a s asked count exact offers shown chosen incarnations e x v h =
    ap (candidates types a s asked count)
    (h ∙ ap (λ (is : List ℕ). filter (is_among is) offers) (e ∙ ap (λ (b : Bool). searched_types types b asked) x))
    ∙ (same-candidates types a s asked count offers ∙ ap (candidates types a s asked count) v)

-- ---- the offers whose type conforms

with-conforming-type : (types : List ServiceType) (asked : List ℕ) (o : OfferRecord)
    → has_conforming_type types asked o ≡ true → is_among (searched_types types false asked) o ≡ true
with-conforming-type types asked o h =
    let parts = and_parts (belongs types o) (conforms types o.service_type asked) h in
    conforming-listed types asked o.service_type o.incarnation
    (has-incarnation o.incarnation (incarnation_of types o.service_type) parts.0) parts.1

pub conforming-same : (types : List ServiceType) (asked : List ℕ) (offers shown chosen : List OfferRecord)
    (incarnations : List ℕ)
    → incarnations ≡ searched_types types false asked → offers ≡ shown → chosen ≡ filter (is_among incarnations) offers
    → filter (has_conforming_type types asked) chosen ≡ filter (has_conforming_type types asked) shown
conforming-same types asked offers shown chosen incarnations e v h =
    let test = has_conforming_type types asked in
    ap (filter test) (h ∙ ap (λ (is : List ℕ). filter (is_among is) offers) e)
    ∙ (filter-within test (is_among (searched_types types false asked)) (with-conforming-type types asked) offers
    ∙ ap (filter test) v)

-- a turn over references to what is kept or left out
module _ {R X : Type 0} (now : R → X) (p : X → Bool) (rows : List R) (i : ℕ) (row : R) (found after : List R)
    (at : row ≡ get_or rows i row) (within : i < length rows)
    (so_far : map now found ++ filter p (map now (drop i rows)) ≡ filter p (map now rows)) where
  abbrev left : List X
  left = map now (drop (i + 1) rows)

  with-row : map now found ++ filter p (now row ∷ left) ≡ filter p (map now rows)
  with-row =
      ap (λ (t : List R). map now found ++ filter p (map now t))
      (sym (drop_more rows i row within ∙ ap (λ r. r ∷ drop (i + 1) rows) (sym at)))
      ∙ so_far

  pub turn-kept : p (now row) ≡ true → after ≡ found ++ row ∷ []
      → map now after ++ filter p left ≡ filter p (map now rows)
  turn-kept y e =
      ap (λ (t : List X). t ++ filter p left) (ap (map now) e ∙ map-append now found (row ∷ []))
      ∙ (append_assoc (map now found) (now row ∷ []) (filter p left)
      ∙ (ap (λ (t : List X). map now found ++ t) (sym (filter-yes p (now row) left y)) ∙ with-row))

  pub turn-left_out : p (now row) ≡ false → after ≡ found → map now after ++ filter p left ≡ filter p (map now rows)
  turn-left_out n e =
      ap (λ (t : List R). map now t ++ filter p left) e
      ∙ (ap (λ (t : List X). map now found ++ t) (sym (filter-no p (now row) left n)) ∙ with-row)

-- The offers of each of some types, one type after another, in the one order of their numbers.
use Rattle.std.proofs.Common.{◌≡◌, ℕ, ◌+◌, ◌≤◌, Bool, true, false, cond, ◌||◌, nat_eq, List, [], ◌∷◌, ◌++◌, length, map}
use Rattle.std.proofs.Common.{Option, Some, refl, sym, ap, ◌∙◌, subst, arith}
use Rattle.std.specs.List.{filter, flat_map, list_any, All}
use Rattle.std.specs.List.Sorted.{IsPermutation, IsNonDecreasingBy}
use Rattle.std.proofs.lemmas.List.Sorted.{IsPermutation-refl, IsPermutation-cons, IsPermutation-middle}
use Rattle.std.proofs.lemmas.List.Sorted.{IsPermutation-trans, IsPermutation-append_right, IsPermutation-sym}
use Rattle.std.proofs.lemmas.List.Sorted.{IsPermutation-map, length_permutation, All-permutation}
use Rattle.std.proofs.lemmas.List.Elements.{All-head, All-tail, All-filter, All-from_recursion}
use Rattle.std.proofs.lemmas.Bool.{cases_Bool, eqb-true}
use Rattle.std.specs.BTreeMap.{BTreeMap}
use Rattle.td_store.specs.Candidates.{is_among}
use Rattle.td_store.specs.OfferLists.{is_of, offer_of}
use Rattle.td_store.specs.Searches.{AreDistinct, AreChained}
use Rattle.td_store.specs.Slabs.{Slab}
use Rattle.td_store.specs.Walks.{values_of}
use Rattle.td_store.specs.declared.record.OfferRecord.{OfferRecord}
use Rattle.td_store.proofs.Homing.{either}
use Rattle.td_store.proofs.Ordering.{Ascends, ascends-from, offers-ascend, found-each, one-order}

pub filter-yes : {X : Type 0} (p : X → Bool) (x : X) (xs : List X) → p x ≡ true → filter p (x ∷ xs) ≡ x ∷ filter p xs
filter-yes p x xs e = ap (λ b. cond b (x ∷ filter p xs) (filter p xs)) e

pub filter-no : {X : Type 0} (p : X → Bool) (x : X) (xs : List X) → p x ≡ false → filter p (x ∷ xs) ≡ filter p xs
filter-no p x xs e = ap (λ b. cond b (x ∷ filter p xs) (filter p xs)) e

-- what two tests pass, of which never both do, is what one of them passes
pub both-pass : {X : Type 0} (p q : X → Bool) → ((x : X) → p x ≡ true → q x ≡ false) → (xs : List X)
    → IsPermutation (filter p xs ++ filter q xs) (filter (λ x. p x || q x) xs)
both-pass p q never [] = IsPermutation-refl []
both-pass {X} p q never (x ∷ xs) =
    let rest : IsPermutation (filter p xs ++ filter q xs) (filter (λ z. p z || q z) xs) = both-pass p q never xs in
    either (cases_Bool (p x))
    (λ (y : p x ≡ true).
    let or : (p x || q x) ≡ true = ap (λ b. b || q x) y in
    rw (filter-yes p x xs y) (rw (filter-no q x xs (never x y))
    (rw (filter-yes (λ z. p z || q z) x xs or) (IsPermutation-cons x _ _ rest))))
    (λ (n : p x ≡ false). either (cases_Bool (q x))
    (λ (y : q x ≡ true).
    let or : (p x || q x) ≡ true = ap (λ b. b || q x) n ∙ y in
    rw (filter-no p x xs n) (rw (filter-yes q x xs y) (rw (filter-yes (λ z. p z || q z) x xs or)
    (IsPermutation-trans _ _ _ (IsPermutation-middle (filter p xs) x (filter q xs))
    (IsPermutation-cons x _ _ rest)))))
    (λ (m : q x ≡ false).
    let or : (p x || q x) ≡ false = ap (λ b. b || q x) n ∙ m in
    rw (filter-no p x xs n) (rw (filter-no q x xs m) (rw (filter-no (λ z. p z || q z) x xs or) rest))))

pub passes-none : (xs : List OfferRecord) → filter (is_among []) xs ≡ []
passes-none [] = refl
passes-none (x ∷ xs) = passes-none xs

pub all-types : (offers : List OfferRecord) (types : List ℕ) → AreDistinct types
    → IsPermutation (flat_map (λ i. filter (is_of i) offers) types) (filter (is_among types) offers)
all-types offers [] a =
    subst (λ (t : List OfferRecord). IsPermutation [] t) (sym (passes-none offers)) (IsPermutation-refl [])
all-types offers (i ∷ types) a =
    IsPermutation-trans _ _ _ (IsPermutation-append_right (filter (is_of i) offers) _ _ (all-types offers types a.1))
    (both-pass (is_of i) (is_among types)
    (λ o e. ap (λ z. list_any (nat_eq z) types) (eqb-true o.incarnation i e) ∙ a.0) offers)

-- ---- what was gathered, and what sorting makes of it

module _ (slab : Slab OfferRecord) (chains : BTreeMap ℕ ℕ) (offers : List OfferRecord)
    (held : AreChained slab chains offers) where
  pub values-are : (types : List ℕ)
      → values_of slab.slots slab.chains chains types ≡ flat_map (λ i. filter (is_of i) offers) types
  values-are [] = refl
  values-are (i ∷ types) =
      ap (λ (t : List OfferRecord). t ++ values_of slab.slots slab.chains chains types) (held.each i)
      ∙ ap (λ (t : List OfferRecord). filter (is_of i) offers ++ t) (values-are types)

  pub few-steps : (types : List ℕ) (began more : ℕ) → AreDistinct types
      → more ≤ began + length types + length (values_of slab.slots slab.chains chains types)
      → more ≤ began + length types + length (filter (is_among types) offers)
  few-steps types began more apart most =
      let same : length (filter (is_among types) offers) ≡ length (flat_map (λ i. filter (is_of i) offers) types) =
      length_permutation _ _ (all-types offers types apart) in
      omega (arith, ap length (values-are types))

lower : (low high : ℕ) (xs : List ℕ) → low ≤ high → Ascends high xs → Ascends low xs
lower low high [] l r = tt
lower low high (x ∷ xs) l r = (omega (arith, r.0), r.1)

ascends-filter : (p : OfferRecord → Bool) (low : ℕ) (xs : List OfferRecord) → Ascends low (map (λ o. o.number) xs)
    → Ascends low (map (λ o. o.number) (filter p xs))
ascends-filter p low [] r = tt
ascends-filter p low (x ∷ xs) r =
    either (cases_Bool (p x))
    (λ (y : p x ≡ true). rw (filter-yes p x xs y) (r.0, ascends-filter p x.number xs r.1))
    (λ (n : p x ≡ false). rw (filter-no p x xs n)
    (lower low x.number (map (λ o. o.number) (filter p xs)) r.0 (ascends-filter p x.number xs r.1)))

all-known : (known : ℕ → Option OfferRecord) (xs : List OfferRecord) → All (λ o. known o.number ≡ Some o) xs
    → map known (map (λ o. o.number) xs) ≡ map (λ o. Some o) xs
all-known known [] a = refl
all-known known (x ∷ xs) a =
    ap (λ z. z ∷ map known (map (λ o. o.number) xs)) (All-head (λ o. known o.number ≡ Some o) x xs a)
    ∙ ap (λ (t : List (Option OfferRecord)). Some x ∷ t)
    (all-known known xs (All-tail (λ o. known o.number ≡ Some o) x xs a))

twice : {R : Type 0} (now : R → OfferRecord) (xs : List R)
    → map (λ o. o.number) (map now xs) ≡ map (λ r. (now r).number) xs
twice now [] = refl
twice now (x ∷ xs) = ap (λ (t : List ℕ). (now x).number ∷ t) (twice now xs)

pub in-order : {R : Type 0} (now : R → OfferRecord) (slab : Slab OfferRecord) (chains : BTreeMap ℕ ℕ)
    (offers : List OfferRecord) (types : List ℕ) (found sorted : List R)
    → AreChained slab chains offers → AreDistinct types → map now found ≡ values_of slab.slots slab.chains chains types
    → IsPermutation found sorted → IsNonDecreasingBy (λ r. (now r).number) sorted
    → map now sorted ≡ filter (is_among types) offers
in-order now slab chains offers types found sorted held apart gathered moved up =
    let known : ℕ → Option OfferRecord = λ n. offer_of offers n in
    let from_all : IsPermutation (map now sorted) (flat_map (λ i. filter (is_of i) offers) types) =
    subst (λ (t : List OfferRecord). IsPermutation (map now sorted) t)
    (gathered ∙ values-are slab chains offers held types)
    (IsPermutation-sym _ _ (IsPermutation-map now found sorted moved)) in
    let same : IsPermutation (map now sorted) (filter (is_among types) offers) =
    IsPermutation-trans _ _ _ from_all (all-types offers types apart) in
    let rises : Ascends 0 (map (λ o. o.number) (map now sorted)) =
    subst (λ (t : List ℕ). Ascends 0 t) (sym (twice now sorted))
    (ascends-from (λ r. (now r).number) 0 sorted up (λ d h. omega arith)) in
    let every : All (λ o. known o.number ≡ Some o) (filter (is_among types) offers) =
    All-filter (is_among types) (λ o. known o.number ≡ Some o) offers
    (All-from_recursion (λ o. known o.number ≡ Some o) offers (found-each offers held.rise)) in
    let these : All (λ o. known o.number ≡ Some o) (map now sorted) =
    All-permutation (λ o. known o.number ≡ Some o) _ _ (IsPermutation-sym _ _ same) every in
    one-order (λ o. o.number) known (map now sorted) (filter (is_among types) offers) same rises
    (ascends-filter (is_among types) 0 offers (offers-ascend offers held.rise))
    (all-known known (map now sorted) these) (all-known known (filter (is_among types) offers) every)

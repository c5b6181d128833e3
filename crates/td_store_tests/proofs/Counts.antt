-- Offers behind others.
use Rattle.std.proofs.Common.{◌≡◌, ℕ, ◌+◌, ◌<◌, ◌≤◌, ◌==◌, Bool, true, false, cond, List, [], ◌∷◌, ◌++◌, length, inl}
use Rattle.std.proofs.Common.{inr, refl, ap, ◌∙◌, subst, arith}
use Rattle.std.specs.List.{AllByRecursion, filter, list_any}
use Rattle.std.proofs.lemmas.Bool.{cases_Bool}
use Rattle.td_types.specs.Conforming.{subtypes}
use Rattle.td_types.specs.declared.entry.ServiceType.{ServiceType}
use Rattle.td_store.specs.Candidates.{is_among, most_steps}
use Rattle.td_store.specs.declared.record.OfferRecord.{OfferRecord}
use Rattle.td_store.proofs.Homing.{push-all, weaker}
use Rattle.td_store.proofs.Mixing.{filter-yes, filter-no}
use Rattle.td_store_tests.specs.Counting.{count_among}

-- one more number below the next
pub one-more : (n : ℕ) (os : List OfferRecord) (o : OfferRecord) → AllByRecursion (λ x. x.number < n) os → o.number ≡ n
    → AllByRecursion (λ x. x.number < n + 1) (os ++ o ∷ [])
one-more n os o h e =
    push-all (λ x. x.number < n + 1) os o
    (weaker (λ x. x.number < n) (λ x. x.number < n + 1) os (λ x l. omega (arith, l)) h) (omega (arith, e))

last-among : (b : Bool) (o : OfferRecord) → length (cond b (o ∷ []) []) ≡ 0 + cond b 1 0
last-among true o = refl
last-among false o = refl

-- and one more of these types, or not
pub one-among : (types : List ℕ) (os : List OfferRecord) (o : OfferRecord) (i : ℕ) → o.incarnation ≡ i
    → length (filter (is_among types) (os ++ o ∷ [])) ≡ length (filter (is_among types) os) + count_among types i
one-among types [] o i e =
    last-among (is_among types o) o ∙ ap (λ (n : ℕ). 0 + cond (list_any (λ t. n == t) types) 1 0) e
one-among types (x ∷ os) o i e =
    let rest = one-among types os o i e in
    elim (cases_Bool (is_among types x)) [
      | inl y ↦ rw (filter-yes (is_among types) x (os ++ o ∷ []) y, filter-yes (is_among types) x os y)
          (omega (arith, rest))
      | inr n ↦ rw (filter-no (is_among types) x (os ++ o ∷ []) n, filter-no (is_among types) x os n) rest
    ]

-- over two types that conform and three offers of these, a query takes at most five steps
pub five-steps : (types : List ServiceType) (asked : List ℕ) (offers : List OfferRecord) (began more : ℕ)
    → subtypes types asked ≡ 2 ∷ 3 ∷ [] → length (filter (is_among (2 ∷ 3 ∷ [])) offers) ≤ 3
    → more ≤ began + most_steps types asked offers → more ≤ began + 5
five-steps types asked offers began more e few most =
    let steps : more ≤ began + (2 + length (filter (is_among (2 ∷ 3 ∷ [])) offers)) =
    subst (λ (below : List ℕ). more ≤ began + (length below + length (filter (is_among below) offers))) e most in
    omega (arith, few, steps)

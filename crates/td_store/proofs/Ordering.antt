-- Offers in the one order of their numbers.
use Rattle.std.proofs.Common.{◌≡◌, ℕ, ◌+◌, ◌<◌, ◌≤◌, Bool, true, false, cond, eqb, ltb, List, [], ◌∷◌, length, get_or}
use Rattle.std.proofs.Common.{map, suc, Option, Some, refl, sym, ap, ◌∙◌, arith, ◌⊎◌, ⊎_elim}
use Rattle.std.specs.List.{sum_by, AllByRecursion}
use Rattle.std.specs.List.Sorted.{IsPermutation, IsNonDecreasingBy, IsStrictlySortedBy}
use Rattle.std.specs.Ordering.{nat_cmp}
use Rattle.std.specs.declared.cmp.Ordering.TheVariants.{Less, Equal, Greater}
use Rattle.std.proofs.lemmas.List.Sums.{sum_by-cons}
use Rattle.std.proofs.lemmas.List.Sorted.{IsPermutation-map, sum_by-IsPermutation}
use Rattle.std.proofs.lemmas.Bool.{lt-ltb, le-ltb, ltb-true, cases_order, ne_eqb, eq-eqb}
use Rattle.td_store.specs.OfferLists.{NumbersRise, offer_of}
use Rattle.td_store.specs.declared.record.OfferRecord.{OfferRecord}

-- the numbers do not fall, and the first is at least this
abbrev pub Ascends : ℕ → List ℕ → Type 0
Ascends low [] = Unit {0}
Ascends low (x ∷ xs) = (low ≤ x) × Ascends x xs

abbrev below : ℕ → ℕ → ℕ
below y z = cond (ltb z y) 1 0

at-least : (y x : ℕ) → y ≤ x → below y x ≡ 0
at-least y x l = ap (λ b. cond b 1 0) (le-ltb x y l)

less : (y x : ℕ) → x < y → below y x ≡ 1
less y x l = ap (λ b. cond b 1 0) (lt-ltb x y l)

tails : (f : ℕ → ℕ) (x y a b : ℕ) → x ≡ y → f x + a ≡ f y + b → a ≡ b
tails f x y a b e s = omega (arith, ap f e)

none-below : (y low : ℕ) (xs : List ℕ) → y ≤ low → Ascends low xs → sum_by (below y) xs ≡ 0
none-below y low [] l r = refl
none-below y low (x ∷ xs) l r =
    let here : below y x ≡ 0 = at-least y x (omega arith) in
    let rest : sum_by (below y) xs ≡ 0 = none-below y x xs (omega arith) r.1 in
    sum_by-cons (below y) x xs ∙ omega (arith, here, rest)

first-same : (x y : ℕ) (xs ys : List ℕ) → Ascends x xs → Ascends y ys
    → ((f : ℕ → ℕ) → sum_by f (x ∷ xs) ≡ sum_by f (y ∷ ys)) → x < y → ⊥
first-same x y xs ys rx ry same l =
    let one : below y x ≡ 1 = less y x l in
    let none : sum_by (below y) (y ∷ ys) ≡ 0 = none-below y y (y ∷ ys) (omega arith) (omega arith, ry) in
    omega (arith, same (below y), sum_by-cons (below y) x xs)

pub same-numbers : (low high : ℕ) (xs ys : List ℕ) → Ascends low xs → Ascends high ys
    → ((f : ℕ → ℕ) → sum_by f xs ≡ sum_by f ys) → xs ≡ ys
same-numbers low high [] [] rx ry same = refl
same-numbers low high [] (y ∷ ys) rx ry same = absurd (omega (arith, same (λ z. 1), sum_by-cons (λ z. 1) y ys))
same-numbers low high (x ∷ xs) [] rx ry same = absurd (omega (arith, same (λ z. 1), sum_by-cons (λ z. 1) x xs))
same-numbers low high (x ∷ xs) (y ∷ ys) rx ry same =
    let equal : x ≡ y =
    ⊎_elim (λ (e : x ≡ y). e)
    (λ (u : (x < y) ⊎ (y < x)). ⊎_elim
    (λ (l : x < y). absurd (first-same x y xs ys rx.1 ry.1 same l))
    (λ (l : y < x). absurd (first-same y x ys xs ry.1 rx.1 (λ f. sym (same f)) l)) u) (cases_order x y) in
    ap (λ z. z ∷ xs) equal
    ∙ ap (λ (t : List ℕ). y ∷ t) (same-numbers x y xs ys rx.1 ry.1
    (λ f. tails f x y (sum_by f xs) (sum_by f ys) equal (sym (sum_by-cons f x xs) ∙ (same f ∙ sum_by-cons f y ys))))

tail-sorted : {X : Type 0} (n : X → ℕ) (x : X) (xs : List X) → IsNonDecreasingBy n (x ∷ xs) → IsNonDecreasingBy n xs
tail-sorted n x xs s i j d le l = s (suc i) (suc j) d (omega arith) (omega arith)

pub ascends-from : {X : Type 0} (n : X → ℕ) (low : ℕ) (xs : List X) → IsNonDecreasingBy n xs
    → ((d : X) → 0 < length xs → low ≤ n (get_or xs 0 d)) → Ascends low (map n xs)
ascends-from n low [] s l = tt
ascends-from n low (x ∷ xs) s l =
    (l x (omega arith), ascends-from n (n x) xs (tail-sorted n x xs s) (λ d h. s 0 1 d (omega arith) (omega arith)))

same-somes : {X : Type 0} (xs ys : List X)
    → ◌≡◌ {A = List (Option X)} (map (λ x. Some x) xs) (map (λ x. Some x) ys) → xs ≡ ys
same-somes [] [] e = refl
same-somes [] (y ∷ ys) e = absurd (let bad : ⊥ = cc in bad)
same-somes (x ∷ xs) [] e = absurd (let bad : ⊥ = cc in bad)
same-somes {X} (x ∷ xs) (y ∷ ys) e =
    let first : x ≡ y = cc in
    let rest : ◌≡◌ {A = List (Option X)} (map (λ z. Some z) xs) (map (λ z. Some z) ys) = cc in
    ap (λ z. z ∷ xs) first ∙ ap (λ (t : List X). y ∷ t) (same-somes xs ys rest)

-- where a record is found by its number, a rising order of the same records is the one such order
pub one-order : {X : Type 0} (n : X → ℕ) (known : ℕ → Option X) (xs ys : List X)
    → IsPermutation xs ys → Ascends 0 (map n xs) → Ascends 0 (map n ys)
    → map known (map n xs) ≡ map (λ x. Some x) xs → map known (map n ys) ≡ map (λ x. Some x) ys → xs ≡ ys
one-order n known xs ys p rx ry kx ky =
    same-somes xs ys (sym kx ∙ (ap (map known) (same-numbers 0 0 (map n xs) (map n ys) rx ry
    (λ f. sym (sum_by-IsPermutation f (map n xs) (map n ys) (IsPermutation-map n xs ys p)))) ∙ ky))

-- ---- offers whose numbers rise

less-when : (b c : Bool) → cond b Less (cond c Equal Greater) ≡ Less → b ≡ true
less-when true c e = refl
less-when false true e = absurd (let bad : ⊥ = cc in bad)
less-when false false e = absurd (let bad : ⊥ = cc in bad)

pub below-from_less : (a b : ℕ) → nat_cmp a b ≡ Less → a < b
below-from_less a b e = ltb-true a b (less-when (ltb a b) (eqb a b) e)

ascends-below : (low : ℕ) (xs : List ℕ) → IsStrictlySortedBy nat_cmp xs → AllByRecursion (λ x. low ≤ x) xs
    → Ascends low xs
unfolding IsStrictlySortedBy
ascends-below low [] s l = tt
ascends-below low (x ∷ xs) s l = (l.0, ascends-below x xs s.1 (further xs s.0))
  where
    further : (ys : List ℕ) → AllByRecursion (λ y. nat_cmp x y ≡ Less) ys → AllByRecursion (λ y. x ≤ y) ys
    further [] h = tt
    further (y ∷ ys) h = let b = below-from_less x y h.0 in (omega (arith, b), further ys h.1)

all-at-least-0 : (xs : List ℕ) → AllByRecursion (λ x. 0 ≤ x) xs
all-at-least-0 [] = tt
all-at-least-0 (x ∷ xs) = (omega arith, all-at-least-0 xs)

pub offers-ascend : (os : List OfferRecord) → NumbersRise os → Ascends 0 (map (λ o. o.number) os)
offers-ascend os r = ascends-below 0 (map (λ o. o.number) os) r (all-at-least-0 (map (λ o. o.number) os))

behind : (o : OfferRecord) (whole os : List OfferRecord)
    → AllByRecursion (λ y. nat_cmp o.number y ≡ Less) (map (λ x. x.number) os)
    → AllByRecursion (λ x. offer_of whole x.number ≡ Some x) os
    → AllByRecursion (λ x. offer_of (o ∷ whole) x.number ≡ Some x) os
behind o whole [] l h = tt
behind o whole (x ∷ os) l h =
    let b = below-from_less o.number x.number l.0 in
    let other : eqb o.number x.number ≡ false =
    ne_eqb o.number x.number (λ (e : o.number ≡ x.number). absurd (omega (arith, b, e))) in
    (ap (λ t. cond t (Some o) (offer_of whole x.number)) other ∙ h.0, behind o whole os l.1 h.1)

-- each offer is found by its number
pub found-each : (os : List OfferRecord) → NumbersRise os → AllByRecursion (λ o. offer_of os o.number ≡ Some o) os
unfolding IsStrictlySortedBy
found-each [] r = tt
found-each (o ∷ os) r = (
  ap (λ t. cond t (Some o) (offer_of os o.number)) (eq-eqb o.number o.number refl),
  behind o os os r.0 (found-each os r.1),
)

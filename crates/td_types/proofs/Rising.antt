-- Incarnations rise in the order of adding.
use Rattle.std.proofs.Common.{◌≡◌, ℕ, ◌≤◌, ◌<◌, Bool, true, false, ◌&&◌, not, cond, inl, inr, List, [], ◌∷◌, ◌++◌}
use Rattle.std.proofs.Common.{reverse, map, refl, sym, ap, subst, ◌∙◌, arith, Option, None, Some}
use Rattle.std.specs.List.{filter, find, AllByRecursion}
use Rattle.std.proofs.lemmas.Bool.{both_ways, cases_Bool, and_parts, and_from, not-true, not_from_false}
use Rattle.std.proofs.lemmas.List.{reverse-append, reverse-reverse, map-append, append-nil}
use Rattle.std.proofs.lemmas.List.Elements.{filter-append}
use Rattle.td_types.specs.Calls.{sub_type, is_listed}
use Rattle.td_types.specs.Conforming.{conforms}
use Rattle.td_types.specs.Laws.{RisesAbove, IsOldestSubType}
use Rattle.td_types.specs.Repository.{Repository, ServiceType, is_named, top, IsWellFounded, IsRepository}
use Rattle.td_types.proofs.Chains.{same-bytes, bytes-same}

all-weaker : (P Q : ServiceType → Type 0) (ts : List ServiceType) → ((t : ServiceType) → P t → Q t)
    → AllByRecursion P ts → AllByRecursion Q ts
all-weaker P Q [] f h = tt
all-weaker P Q (t ∷ ts) f h = (f t h.0, all-weaker P Q ts f h.1)

all-end : (P : ServiceType → Type 0) (ts : List ServiceType) (t : ServiceType) → AllByRecursion P ts → P t
    → AllByRecursion P (ts ++ t ∷ [])
all-end P [] t h p = (p, tt)
all-end P (x ∷ ts) t h p = (h.0, all-end P ts t h.1 p)

pub all-reverse : (P : ServiceType → Type 0) (ts : List ServiceType) → AllByRecursion P ts
    → AllByRecursion P (reverse ts)
all-reverse P [] h = tt
all-reverse P (t ∷ ts) h =
    subst (AllByRecursion P) (sym (reverse-append (t ∷ []) ts)) (all-end P (reverse ts) t (all-reverse P ts h.1) h.0)

-- no incarnation is above the youngest's
pub below-top : {ts : List ServiceType} → IsWellFounded ts → AllByRecursion (λ t. t.incarnation ≤ top ts) ts
below-top IsWellFounded.none = tt
below-top (IsWellFounded.more t older fresh supers higher f) = (
  omega arith,
  all-weaker (λ x. x.incarnation ≤ top older) (λ x. x.incarnation ≤ t.incarnation) older
      (λ x h. omega (arith, h, higher)) (below-top f),
)

rises-end : (below : ℕ) (ns : List ℕ) (n : ℕ) → RisesAbove below ns → below < n → AllByRecursion (λ m. m < n) ns
    → RisesAbove below (ns ++ n ∷ [])
rises-end below [] n r h a = (h, tt)
rises-end below (m ∷ ns) n r h a = (r.0, rises-end m ns n r.1 a.0 a.1)

below-one : (test : ServiceType → Bool) (n : ℕ) (t : ServiceType) (b : Bool) (ts : List ServiceType) → t.incarnation < n
    → AllByRecursion (λ m. m < n) (map (λ t. t.incarnation) (filter test ts))
    → AllByRecursion (λ m. m < n) (map (λ t. t.incarnation) (cond b (t ∷ filter test ts) (filter test ts)))
below-one test n t true ts h a = (h, a)
below-one test n t false ts h a = a

incarnations-below : (test : ServiceType → Bool) (n : ℕ) (ts : List ServiceType)
    → AllByRecursion (λ t. t.incarnation < n) ts
    → AllByRecursion (λ m. m < n) (map (λ t. t.incarnation) (filter test ts))
incarnations-below test n [] h = tt
incarnations-below test n (t ∷ ts) h = below-one test n t (test t) ts h.0 (incarnations-below test n ts h.1)

one-more : (ns : List ℕ) (t : ServiceType) (b : Bool) → RisesAbove 0 ns → 0 < t.incarnation
    → AllByRecursion (λ m. m < t.incarnation) ns → RisesAbove 0 (ns ++ map (λ t. t.incarnation) (cond b (t ∷ []) []))
one-more ns t true r h a = rises-end 0 ns t.incarnation r h a
one-more ns t false r h a = subst (RisesAbove 0) (sym (append-nil ns)) r

rising : (test : ServiceType → Bool) {ts : List ServiceType} → IsWellFounded ts
    → RisesAbove 0 (map (λ t. t.incarnation) (filter test (reverse ts)))
rising test IsWellFounded.none = tt
rising test (IsWellFounded.more t older fresh supers higher f) =
    let number : ServiceType → ℕ = λ x. x.incarnation in
    let ns = map number (filter test (reverse older)) in
    let split : map number (filter test (reverse (t ∷ older))) ≡ ns ++ map number (cond (test t) (t ∷ []) []) =
    ap (λ (ts : List ServiceType). map number (filter test ts)) (reverse-append (t ∷ []) older)
    ∙ (ap (map number) (filter-append test (reverse older) (t ∷ []))
    ∙ map-append number (filter test (reverse older)) (cond (test t) (t ∷ []) [])) in
    let under : AllByRecursion (λ x. x.incarnation < t.incarnation) (reverse older) =
    all-reverse (λ x. x.incarnation < t.incarnation) older
    (all-weaker (λ x. x.incarnation ≤ top older) (λ x. x.incarnation < t.incarnation) older
    (λ x h. omega (arith, h, higher)) (below-top f)) in
    subst (RisesAbove 0) (sym split)
    (one-more ns t (test t) (rising test f) (omega (arith, higher))
    (incarnations-below test t.incarnation (reverse older) under))

-- the incarnations of those that pass a test
pub incarnations-rise : (r : Repository) (test : ServiceType → Bool) → IsRepository r
    → RisesAbove 0 (map (λ t. t.incarnation) (filter test r.types))
incarnations-rise r test valid =
    subst (λ (ts : List ServiceType). RisesAbove 0 (map (λ t. t.incarnation) (filter test ts))) (reverse-reverse r.types)
    (rising test valid.founded)

pub below-last : (r : Repository) (n : ℕ) → r.last < n → IsRepository r
    → AllByRecursion (λ t. t.incarnation < n) r.types
below-last r n h valid =
    let c = valid.counted in
    subst (AllByRecursion (λ t. t.incarnation < n)) (reverse-reverse r.types)
    (all-reverse (λ t. t.incarnation < n) (reverse r.types)
    (all-weaker (λ t. t.incarnation ≤ top (reverse r.types)) (λ t. t.incarnation < n) (reverse r.types)
    (λ t b. omega (arith, b, c, h)) (below-top valid.founded)))

-- ---- the first one that passes a test is the oldest

all-above : (n : ℕ) (ts : List ServiceType) → RisesAbove n (map (λ t. t.incarnation) ts)
    → AllByRecursion (λ t. n ≤ t.incarnation) ts
all-above n [] r = tt
all-above n (t ∷ ts) r =
    let h = r.0 in (
      omega (arith, h),
      all-weaker (λ x. t.incarnation ≤ x.incarnation) (λ x. n ≤ x.incarnation) ts
          (λ x a. omega (arith, a, h)) (all-above t.incarnation ts r.1),
    )

oldest-of : (test : ServiceType → Bool) (t : ServiceType) (b : Bool) (ts : List ServiceType) (sub : ServiceType)
    → test t ≡ b → RisesAbove t.incarnation (map (λ t. t.incarnation) ts)
    → (find test ts ≡ Some sub → AllByRecursion (λ x. test x ≡ true → sub.incarnation ≤ x.incarnation) ts)
    → cond b (Some t) (find test ts) ≡ Some sub
    → AllByRecursion (λ x. test x ≡ true → sub.incarnation ≤ x.incarnation) (t ∷ ts)
oldest-of test t true ts sub e r later h =
    let same : t ≡ sub = cc in
    subst (λ (s : ServiceType). AllByRecursion (λ x. test x ≡ true → s.incarnation ≤ x.incarnation) (t ∷ ts)) same (
      (λ p. omega arith),
      all-weaker (λ x. t.incarnation ≤ x.incarnation)
          (λ x. test x ≡ true → t.incarnation ≤ x.incarnation) ts (λ x a p. a) (all-above t.incarnation ts r),
    )
oldest-of test t false ts sub e r later h = ((λ p. absurd (both_ways (test t) e p)), later h)

oldest : (test : ServiceType → Bool) (below : ℕ) (ts : List ServiceType) (sub : ServiceType)
    → RisesAbove below (map (λ t. t.incarnation) ts) → find test ts ≡ Some sub
    → AllByRecursion (λ x. test x ≡ true → sub.incarnation ≤ x.incarnation) ts
oldest test below [] sub r h = tt
oldest test below (t ∷ ts) sub r h = oldest-of test t (test t) ts sub refl r.1 (oldest test t.incarnation ts sub r.1) h

passes-when : (test : ServiceType → Bool) (t : ServiceType) (b : Bool) (later : Option ServiceType) (sub : ServiceType)
    → test t ≡ b → (later ≡ Some sub → test sub ≡ true) → cond b (Some t) later ≡ Some sub → test sub ≡ true
passes-when test t true later sub e there h =
    let same : t ≡ sub = cc in subst (λ (s : ServiceType). test s ≡ true) same e
passes-when test t false later sub e there h = there h

pub passes : (test : ServiceType → Bool) (ts : List ServiceType) (sub : ServiceType) → find test ts ≡ Some sub
    → test sub ≡ true
passes test [] sub h = absurd (let bad : ⊥ = cc in bad)
passes test (t ∷ ts) sub h = passes-when test t (test t) (find test ts) sub refl (passes test ts sub) h

keeps-all : (ts : List ServiceType) → filter (is_listed None) ts ≡ ts
keeps-all [] = refl
keeps-all (t ∷ ts) = ap (λ (xs : List ServiceType). t ∷ xs) (keeps-all ts)

pub oldest-sub_type : (r : Repository) (name : List ℕ) (sub : ServiceType) → IsRepository r → sub_type r name ≡ Some sub
    → IsOldestSubType r name sub
oldest-sub_type r name sub valid h =
    let test : ServiceType → Bool = λ t. not (is_named name t) && conforms r.types t.name name in
    let p = and_parts (not (is_named name sub)) (conforms r.types sub.name name) (passes test r.types sub h) in
    let rise : RisesAbove 0 (map (λ t. t.incarnation) r.types) =
    subst (λ (ts : List ServiceType). RisesAbove 0 (map (λ t. t.incarnation) ts)) (keeps-all r.types)
    (incarnations-rise r (is_listed None) valid) in
    record {
      conforming = p.1;
      other = λ same. both_ways (is_named name sub) (not-true (is_named name sub) p.0) (bytes-same sub.name name same);
      oldest =
          all-weaker (λ t. test t ≡ true → sub.incarnation ≤ t.incarnation)
          (λ t. (t.name ≡ name → ⊥) → conforms r.types t.name name ≡ true → sub.incarnation ≤ t.incarnation) r.types
          (λ t f differs c. f (and_from (not (is_named name t)) (conforms r.types t.name name)
          (elim (cases_Bool (is_named name t)) [
            | inl same ↦ absurd (differs (same-bytes t.name name same))
            | inr other ↦ not_from_false (is_named name t) other
          ])
          c))
          (oldest test 0 r.types sub rise h);
    }

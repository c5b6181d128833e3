-- Values of which identifiers are made: one of so many as are remembered, and one more, is free.
use Rattle.std.proofs.Common.{◌≡◌, true≢false, ℕ, zero, suc, ◌+◌, ◌-◌, ◌^◌, ◌<◌, ◌≤◌, ◌⊎◌, inl, inr, Bool, true, false}
use Rattle.std.proofs.Common.{not, List, [], ◌∷◌, length, Option, Some, None, is_some, unwrap_or, refl}
use Rattle.std.proofs.Common.{sym, ap, ◌∙◌, subst, arith, Result, Ok, Err, IfOk}
use Rattle.std.proofs.lemmas.Bool.{cases_Bool, cases_eq, cases_lt}
use Rattle.indexmap.proofs.IndexTableLemmas.Probe.{Into, OneToOne, pigeonhole}
use Rattle.td_cdr.specs.Marks.{Marks, RememberedMark, In, RemembersAs, AreNumbered, KeepsLatest, Later, IsMarkedFrom}
use Rattle.td_cdr.specs.Marks.{remembered, add_mark}
use Rattle.td_cdr.specs.Marks.{entry_of, made_identifier}
use Rattle.td_cdr.proofs.Marking.{is_held, is_not_held, follows, made_apart}
use Rattle.td_marks.specs.Making.{is_free, first_free, next_value, made_from, IsNextValue}
use Rattle.td_marks.specs.declared.made.Made.{Made}

-- ---- the first that is free

from_first : (free : ℕ → Bool) (n k : ℕ) → (k ≤ first_free free n k) × (first_free free n k ≤ k + n)
from_first free zero k = (omega arith, omega arith)
from_first free (suc n) k =
    elim (cases_Bool (free k)) [
      | inl here ↦ rw here (omega arith, omega arith)
      | inr taken ↦ let r = from_first free n (k + 1) in rw taken (omega (arith, r.0), omega (arith, r.1))
    ]

taken_before : (free : ℕ → Bool) (n k j : ℕ) → k ≤ j → j < first_free free n k → free j ≡ false
taken_before free zero k j from below = absurd (omega arith)
taken_before free (suc n) k j from below =
    elim (cases_Bool (free k)) [
      | inl here ↦ let less : j < k = rw here at below in absurd (omega arith)
      | inr taken ↦
          let less : j < first_free free n (k + 1) = rw taken at below in
          elim (cases_eq k j) [
            | inl same ↦ subst (λ (x : ℕ). free x ≡ false) same taken
            | inr other ↦ taken_before free n (k + 1) j (omega arith) less
          ]
    ]

free_or_last : (free : ℕ → Bool) (n k : ℕ) → (free (first_free free n k) ≡ true) ⊎ (first_free free n k ≡ k + n)
free_or_last free zero k = inr (omega arith)
free_or_last free (suc n) k =
    elim (cases_Bool (free k)) [
      | inl here ↦ rw here (inl here)
      | inr taken ↦ rw taken (on (free_or_last free n (k + 1)))
    ]
  where
    on : (free (first_free free n (k + 1)) ≡ true) ⊎ (first_free free n (k + 1) ≡ k + 1 + n)
        → (free (first_free free n (k + 1)) ≡ true) ⊎ (first_free free n (k + 1) ≡ k + suc n)
    on (inl f) = inl f
    on (inr e) = inr (omega arith)

-- this one is the first
pub stops : (free : ℕ → Bool) (n k : ℕ) → 0 < n → free k ≡ true → first_free free n k ≡ k
stops free zero k some here = absurd (omega arith)
stops free (suc n) k some here = rw here refl

-- this one isn't
pub goes_on : (free : ℕ → Bool) (n less k : ℕ) → 0 < n → n ≡ less + 1 → free k ≡ false
    → first_free free n k ≡ first_free free less (k + 1)
goes_on free zero less k some one taken = absurd (omega arith)
goes_on free (suc n) less k some one taken =
    let same : n ≡ less = omega arith in rw taken (ap (λ (t : ℕ). first_free free t (k + 1)) same)

-- none is left
pub ends : (free : ℕ → Bool) (n k : ℕ) → n ≡ 0 → first_free free n k ≡ k
ends free zero k none = refl
ends free (suc n) k none = absurd (omega arith)

-- ---- no more are taken than are kept

bounds : (k : ℕ) (es : List RememberedMark) (n : ℕ) (e : RememberedMark) → AreNumbered k es n → In e es
    → (k < e.number) × (e.number ≤ k + length es)
bounds k [] n e r h = elim h [ ]
bounds k (f ∷ es) n e r (inl p) =
    let same : e.number ≡ f.number = ap (λ (x : RememberedMark). x.number) p in
    let is = r.0 in (omega arith, omega arith)
bounds k (f ∷ es) n e r (inr h) = let b = bounds (k + 1) es n e r.1 h in (omega (arith, b.0), omega (arith, b.1))

one_number : (k : ℕ) (es : List RememberedMark) (n : ℕ) (a b : RememberedMark) → AreNumbered k es n → In a es → In b es
    → a.number ≡ b.number → a ≡ b
one_number k [] n a b r h l e = elim h [ ]
one_number k (f ∷ es) n a b r (inl p) (inl q) e = p ∙ sym q
one_number k (f ∷ es) n a b r (inl p) (inr l) e =
    let same : a.number ≡ f.number = ap (λ (x : RememberedMark). x.number) p in
    let is = r.0 in let above = bounds (k + 1) es n b r.1 l in absurd (omega arith)
one_number k (f ∷ es) n a b r (inr h) (inl q) e =
    let same : b.number ≡ f.number = ap (λ (x : RememberedMark). x.number) q in
    let is = r.0 in let above = bounds (k + 1) es n a r.1 h in absurd (omega arith)
one_number k (f ∷ es) n a b r (inr h) (inr l) e = one_number (k + 1) es n a b r.1 h l e

-- the number under which the identifier of a value is remembered
abbrev number_of : Marks → List ℕ → ℕ → ℕ
number_of m stem value = unwrap_or (remembered m (made_identifier stem value)) 0

there : (o : Option ℕ) → not (is_some o) ≡ false → o ≡ Some (unwrap_or o 0)
there None e = absurd (true≢false e)
there (Some x) e = refl

held : (m : Marks) (stem : List ℕ) (value : ℕ) → is_free m stem value ≡ false
    → RemembersAs m (made_identifier stem value) (number_of m stem value)
held m stem value taken =
    is_held m (made_identifier stem value) (number_of m stem value)
    (there (remembered m (made_identifier stem value)) taken)

few : (m : Marks) (stem : List ℕ) (n k : ℕ) → KeepsLatest m → k + n ≤ 256 ^ 8
    → ((j : ℕ) → k ≤ j → j < k + n → is_free m stem j ≡ false) → n ≤ length m.kept
few m stem n k o fits taken = pigeonhole n (length m.kept) place into one
  where
    first : ℕ
    first = m.count - m.ring

    place : ℕ → ℕ
    place i = number_of m stem (k + i) - first - 1

    there_is : (i : ℕ) → i < n → RemembersAs m (made_identifier stem (k + i)) (number_of m stem (k + i))
    there_is i below = held m stem (k + i) (taken (k + i) (omega arith) (omega arith))

    within : (i : ℕ) → i < n
        → (first < number_of m stem (k + i)) × (number_of m stem (k + i) ≤ first + length m.kept)
    within i below =
        bounds first m.kept m.count (entry_of (made_identifier stem (k + i)) (number_of m stem (k + i))) o.numbers
        (there_is i below)

    into : Into place n (length m.kept)
    into i below = let b = within i below in omega (arith, b.0, b.1)

    one : OneToOne place n
    one i j p q e =
        let a = within i p in
        let b = within j q in
        let same : number_of m stem (k + i) ≡ number_of m stem (k + j) = omega (arith, a.0, b.0, e) in
        let entries = one_number first m.kept m.count
        (entry_of (made_identifier stem (k + i)) (number_of m stem (k + i)))
        (entry_of (made_identifier stem (k + j)) (number_of m stem (k + j))) o.numbers (there_is i p) (there_is j q)
        same in
        let values : k + i ≡ k + j =
        made_apart stem stem (k + i) (k + j) (omega arith) (omega arith) (ap (λ (x : RememberedMark). x.identifier) entries) in
        omega (arith, values)

-- ---- the next value

none_is : (o : Option ℕ) → not (is_some o) ≡ true → o ≡ None
none_is None e = refl
none_is (Some x) e = absurd (true≢false (sym e))

pub next_is_free : (m : Marks) (stem : List ℕ) → KeepsLatest m → m.counter + length m.kept < 256 ^ 8
    → is_free m stem (next_value m stem) ≡ true
next_is_free m stem o fits = by (free_or_last (is_free m stem) (length m.kept) m.counter)
  where
    n : ℕ
    n = length m.kept

    all_taken : next_value m stem ≡ m.counter + n → is_free m stem (next_value m stem) ≡ false → (j : ℕ)
        → m.counter ≤ j → j < m.counter + (n + 1) → is_free m stem j ≡ false
    all_taken e last j from below =
        elim (cases_lt j (m.counter + n)) [
          | inl less ↦ taken_before (is_free m stem) n m.counter j from (omega arith)
          | inr more ↦
              let here : next_value m stem ≡ j = omega arith in
              subst (λ (x : ℕ). is_free m stem x ≡ false) here last
        ]

    by : (is_free m stem (next_value m stem) ≡ true) ⊎ (next_value m stem ≡ m.counter + n)
        → is_free m stem (next_value m stem) ≡ true
    by (inl f) = f
    by (inr e) =
        elim (cases_Bool (is_free m stem (next_value m stem))) [
          | inl f ↦ f
          | inr t ↦
              let many = few m stem (n + 1) m.counter o (omega arith) (all_taken e t) in absurd (omega arith)
        ]

pub is_next : (m : Marks) (stem : List ℕ) → KeepsLatest m → m.counter + length m.kept < 256 ^ 8
    → IsNextValue m stem (next_value m stem)
is_next m stem o fits =
    let r = from_first (is_free m stem) (length m.kept) m.counter in
    record {
      from = r.0;
      free = none_is (remembered m (made_identifier stem (next_value m stem))) (next_is_free m stem o fits);
      least = taken_before (is_free m stem) (length m.kept) m.counter;
      soon = r.1;
    }

free_is : (m : Marks) (stem : List ℕ) (v : ℕ) → IsNextValue m stem v → is_free m stem v ≡ true
free_is m stem v h = ap (λ (o : Option ℕ). not (is_some o)) h.free

not_below : (m : Marks) (stem : List ℕ) (v w : ℕ) → IsNextValue m stem v → IsNextValue m stem w → v < w → ⊥
not_below m stem v w h l less =
    true≢false (sym (free_is m stem v h) ∙ l.least v h.from less)

pub is_alone : (m : Marks) (stem : List ℕ) (v w : ℕ) → IsNextValue m stem v → IsNextValue m stem w → v ≡ w
is_alone m stem v w h l =
    elim (cases_lt v w) [
      | inl less ↦ absurd (not_below m stem v w h l less)
      | inr less ↦ elim (cases_lt w v) [
        | inl more ↦ absurd (not_below m stem w v l h more)
        | inr more ↦ omega arith
      ]
    ]

-- ---- marks

pub fresh_follow : (m : Marks) (i : List ℕ) (c : ℕ) → KeepsLatest m → m.counter ≤ c → remembered m i ≡ None
    → IsMarkedFrom m (add_mark m i c)
fresh_follow m i c o up fresh = follows m i c o up (is_not_held m i fresh)

pub far : (a m : Marks) (i : List ℕ) (number : ℕ) → RemembersAs a i number → Later a m → remembered m i ≡ None
    → number + m.ring < m.count + 1
far a m i number h later fresh =
    elim (cases_lt m.count (number + a.ring)) [
      | inl near ↦ absurd (is_not_held m i fresh number (later.keeps (entry_of i number) h near))
      | inr most ↦ let same = later.ring in omega arith
    ]

-- ---- made identifiers

-- the identifier that is made isn't remembered
made_is_free : (m : Marks) (stem : List ℕ) (made : Made) → KeepsLatest m → m.counter + length m.kept < 256 ^ 8
    → made ≡ made_from stem (next_value m stem) → remembered m made.identifier ≡ None
made_is_free m stem made o fits e =
    subst (λ (x : Made). remembered m x.identifier ≡ None) (sym e) (is_next m stem o fits).free

pub made_are_free : {E : Type 0} (m : Marks) (stem : List ℕ) (r : Result Made E) → KeepsLatest m
    → m.counter + length m.kept < 256 ^ 8 → IfOk r (λ (x : Made). x ≡ made_from stem (next_value m stem))
    → IfOk r (λ (x : Made). remembered m x.identifier ≡ None)
made_are_free m stem (Ok x) o fits e = made_is_free m stem x o fits e
made_are_free m stem (Err x) o fits e = tt

-- what a test of the identifier tells
pub content_free : (m : Marks) (stem identifier : List ℕ) (value : ℕ) (o : Option ℕ) (b : Bool)
    → identifier ≡ made_identifier stem value → o ≡ remembered m identifier → is_some o ≡ not b
    → is_free m stem value ≡ b
content_free m stem identifier value o b same is content =
    ap (λ (i : List ℕ). not (is_some (remembered m i))) (sym same)
    ∙ (ap (λ (p : Option ℕ). not (is_some p)) (sym is) ∙ (ap not content ∙ not_not b))
  where
    not_not : (b : Bool) → not (not b) ≡ b
    not_not true = refl
    not_not false = refl

-- What becomes of paths and rings where a link leaves its ring or enters one.
use Rattle.std.proofs.Common.{◌≡◌, ℕ, ◌*◌, Bool, true, false, ◌||◌, eqb, List, [], ◌∷◌, ◌++◌, refl, sym, ap, ◌∙◌, subst}
use Rattle.std.proofs.Common.{⊎_elim, ◌⊎◌, arith}
use Rattle.std.proofs.lemmas.Bool.{cases_eq, eq-eqb, ne_eqb}
use Rattle.std.proofs.lemmas.Bool.Decides.{nat_tests}
use mathlib.Core.Logic.{◌≢◌}
use Rattle.td_store.specs.Rings.{Path, IsLink, ring_is_no_link}
use Rattle.td_store.specs.Slabs.{is_in, without}

pub either : {P Q C : Type 0} → P ⊎ Q → (P → C) → (Q → C) → C
either u f g = ⊎_elim f g u

-- ---- lists without a number

pub without-here : (x y : ℕ) (ys : List ℕ) → y ≡ x → without x (y ∷ ys) ≡ without x ys
without-here x y ys e = rw (eq-eqb y x e) refl

pub without-other : (x y : ℕ) (ys : List ℕ) → y ≢ x → without x (y ∷ ys) ≡ y ∷ without x ys
without-other x y ys n = rw (ne_eqb y x n) refl

-- it lacks just that number
pub without-same : (x : ℕ) (xs : List ℕ) → is_in x (without x xs) ≡ false
without-same x [] = refl
without-same x (y ∷ ys) =
    either (cases_eq y x)
    (λ (e : y ≡ x). rw (without-here x y ys e) (without-same x ys))
    (λ (n : y ≢ x). rw (without-other x y ys n) (rw (ne_eqb y x n) (without-same x ys)))

pub without-is_in : (x q : ℕ) (xs : List ℕ) → q ≢ x → is_in q (without x xs) ≡ is_in q xs
without-is_in x q [] n = refl
without-is_in x q (y ∷ ys) n =
    either (cases_eq y x)
    (λ (e : y ≡ x).
    let differs : eqb y q ≡ false = ne_eqb y q (λ (d : y ≡ q). n (sym d ∙ e)) in
    rw (without-here x y ys e) (rw differs (without-is_in x q ys n)))
    (λ (d : y ≢ x). rw (without-other x y ys d) (ap (λ b. eqb y q || b) (without-is_in x q ys n)))

or_assoc : (a b c : Bool) → (a || (b || c)) ≡ ((a || b) || c)
or_assoc true b c = refl
or_assoc false b c = refl

pub pushed-is_in : (x q : ℕ) (xs : List ℕ) → is_in q (xs ++ x ∷ []) ≡ (is_in q xs || eqb x q)
pushed-is_in x q [] = grind (arith, nat_tests)
pushed-is_in x q (y ∷ ys) = rw (pushed-is_in x q ys) (or_assoc (eqb y q) (is_in q ys) (eqb x q))

-- ---- a link leaves its ring

-- what taking x out changes of the joints after
pub record Skips (f g : ℕ → ℕ) (x last next : ℕ) : Type 0 where
  pub led : f last ≡ x
  pub leads : f x ≡ next
  pub only : (q : ℕ) → f q ≡ x → q ≡ last
  pub skipped : last ≢ x → g last ≡ next
  pub others : (q : ℕ) → q ≢ x → q ≢ last → g q ≡ f q

pub skips-path : (f g : ℕ → ℕ) (x last next from to : ℕ) (xs : List ℕ) → Skips f g x last next → from ≢ x → to ≢ x
    → Path f from xs to → Path g from (without x xs) to
skips-path f g x last next from to [] s n m p =
    s.others from n (λ (e : from ≡ last). m (sym p ∙ (ap f e ∙ s.led))) ∙ p
skips-path f g x last next from to (y ∷ []) s n m p =
    either (cases_eq y x)
    (λ (e : y ≡ x).
    let at_last : from ≡ last = s.only from (p.0 ∙ e) in
    let skipped : g from ≡ next = ap g at_last ∙ s.skipped (λ (d : last ≡ x). n (at_last ∙ d)) in
    let end : Path g from [] to = skipped ∙ (sym s.leads ∙ (ap f (sym e) ∙ p.1.1)) in
    rw (without-here x y [] e) end)
    (λ (d : y ≢ x).
    let same : g from ≡ f from = s.others from n (λ (e : from ≡ last). d (sym p.0 ∙ (ap f e ∙ s.led))) in
    rw (without-other x y [] d) (same ∙ p.0, (p.1.0, skips-path f g x last next y to [] s d m p.1.1)))
skips-path f g x last next from to (y ∷ w ∷ ws) s n m p =
    either (cases_eq y x)
    (λ (e : y ≡ x).
    let at_last : from ≡ last = s.only from (p.0 ∙ e) in
    let skipped : g from ≡ next = ap g at_last ∙ s.skipped (λ (d : last ≡ x). n (at_last ∙ d)) in
    let goes_on : g from ≡ w = skipped ∙ (sym s.leads ∙ (ap f (sym e) ∙ p.1.1.0)) in
    let d : w ≢ x = λ (c : w ≡ x). n (at_last ∙ (sym (s.only y (p.1.1.0 ∙ c)) ∙ e)) in
    rw (without-here x y (w ∷ ws) e)
    (rw (without-other x w ws d) (goes_on, (p.1.1.1.0, skips-path f g x last next w to ws s d m p.1.1.1.1))))
    (λ (d : y ≢ x).
    let same : g from ≡ f from = s.others from n (λ (e : from ≡ last). d (sym p.0 ∙ (ap f e ∙ s.led))) in
    rw (without-other x y (w ∷ ws) d) (same ∙ p.0, (p.1.0, skips-path f g x last next y to (w ∷ ws) s d m p.1.1)))

-- ---- a link enters a ring at its end

-- what putting x in front of the joint `to`, after `last`, changes of the joints after
pub record Enters (f g : ℕ → ℕ) (x last to : ℕ) : Type 0 where
  pub was : f last ≡ to
  pub only : (q : ℕ) → f q ≡ to → q ≡ last
  pub apart : (q : ℕ) → f q ≡ x → q ≡ x
  pub entered : g last ≡ x
  pub goes_on : g x ≡ to
  pub others : (q : ℕ) → q ≢ x → q ≢ last → g q ≡ f q

pub enters-path : (f g : ℕ → ℕ) (x last k from : ℕ) (xs : List ℕ) → Enters f g x last (3 * k) → IsLink x → from ≢ x
    → Path f from xs (3 * k) → Path g from (xs ++ x ∷ []) (3 * k)
enters-path f g x last k from [] s l n p =
    let at_last : from ≡ last = s.only from p in
    (ap g at_last ∙ s.entered, (l, s.goes_on))
enters-path f g x last k from (y ∷ ys) s l n p =
    let same : g from ≡ f from =
    s.others from n (λ (e : from ≡ last). ring_is_no_link k y (sym (ap f e ∙ s.was) ∙ p.0) p.1.0) in
    let d : y ≢ x = λ (e : y ≡ x). n (s.apart from (p.0 ∙ e)) in
    (same ∙ p.0, (p.1.0, enters-path f g x last k y ys s l d p.1.1))

pub triples : (j k : ℕ) → j ≢ k → 3 * j ≡ 3 * k → ⊥
triples j k n e = n (omega arith)

pub enters-other : (f g : ℕ → ℕ) (x last k j from : ℕ) (xs : List ℕ) → Enters f g x last (3 * k) → j ≢ k → from ≢ x
    → Path f from xs (3 * j) → Path g from xs (3 * j)
enters-other f g x last k j from [] s o n p =
    s.others from n (λ (e : from ≡ last). triples j k o (sym p ∙ (ap f e ∙ s.was))) ∙ p
enters-other f g x last k j from (y ∷ ys) s o n p =
    let same : g from ≡ f from =
    s.others from n (λ (e : from ≡ last). ring_is_no_link k y (sym (ap f e ∙ s.was) ∙ p.0) p.1.0) in
    let d : y ≢ x = λ (e : y ≡ x). n (s.apart from (p.0 ∙ e)) in
    (same ∙ p.0, (p.1.0, enters-other f g x last k j y ys s o d p.1.1))

-- ---- the first of a ring

pub no_again : (f : ℕ → ℕ) (x k from : ℕ) (xs : List ℕ) → ((q : ℕ) → f q ≡ x → q ≡ 3 * k) → IsLink from
    → Path f from xs (3 * k) → is_in x xs ≡ false
no_again f x k from [] only l p = refl
no_again f x k from (y ∷ ys) only l p =
    let n : y ≢ x = λ (e : y ≡ x). ring_is_no_link k from (sym (only from (p.0 ∙ e))) l in
    ap (λ b. b || is_in x ys) (ne_eqb y x n) ∙ no_again f x k y ys only p.1.0 p.1.1

pub first-is : (f : ℕ → ℕ) (k : ℕ) (xs : List ℕ) → Path f (3 * k) xs (3 * k) → f (3 * k) ≢ 3 * k
    → (rest : List ℕ) × ((xs ≡ f (3 * k) ∷ rest) × (IsLink (f (3 * k)) × Path f (f (3 * k)) rest (3 * k)))
first-is f k [] p n = absurd (n p)
first-is f k (x ∷ xs) p n =
    (xs, (ap (λ z. z ∷ xs) (sym p.0), subst (λ z. IsLink z × Path f z xs (3 * k)) (sym p.0) p.1))

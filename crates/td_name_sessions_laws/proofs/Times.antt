-- How often a number stands in a list, and lists of numbers that rise.
use Rattle.std.proofs.Common.{◌≡◌, ◌⊎◌, inl, inr, ℕ, ◌+◌, ◌<◌, Bool, true, false, cond, List, [], ◌∷◌, ◌++◌}
use Rattle.std.proofs.Common.{refl, sym, ap, ◌∙◌, arith}
use Rattle.std.proofs.lemmas.Bool.{cases_Bool, eq-eqb, eqb-true}
use Rattle.std.specs.Prelude.{nat_eq}
use Rattle.td_cdr.specs.Marks.{In}
use Rattle.td_cell.specs.Lists.{Rises, itself}
use Rattle.td_name_sessions_laws.specs.OneHistory.{times}

-- ---- what is in a list

pub in-either : (a : ℕ) (xs ys : List ℕ) → In a (xs ++ ys) → In a xs ⊎ In a ys
in-either a [] ys h = inr h
in-either a (x ∷ xs) ys (inl e) = inl (inl e)
in-either a (x ∷ xs) ys (inr h) =
    elim (in-either a xs ys h) as (λ _. In a (x ∷ xs) ⊎ In a ys) [ inl p ↦ inl (inr p) | inr p ↦ inr p ]

pub in-first : (a : ℕ) (xs ys : List ℕ) → In a xs → In a (xs ++ ys)
in-first a [] ys h = absurd h
in-first a (x ∷ xs) ys (inl e) = inl e
in-first a (x ∷ xs) ys (inr h) = inr (in-first a xs ys h)

pub in-second : (a : ℕ) (xs ys : List ℕ) → In a ys → In a (xs ++ ys)
in-second a [] ys h = h
in-second a (x ∷ xs) ys h = inr (in-second a xs ys h)

pub rises-both : (xs ys : List ℕ) → Rises itself xs → Rises itself ys
    → ((a b : ℕ) → In a xs → In b ys → a < b) → Rises itself (xs ++ ys)
rises-both [] ys p q f = q
rises-both (x ∷ xs) ys p q f = (
  (λ b h. elim (in-either b xs ys h) as (λ _. x < b) [ inl i ↦ p.0 b i | inr i ↦ f x b (inl refl) i ]),
  rises-both xs ys p.1 q (λ a b h i. f a b (inr h) i),
)

-- ---- how often

here : (n x : ℕ) (xs : List ℕ) → x ≡ n → times n (x ∷ xs) ≡ times n xs + 1
here n x xs e = ap (λ (b : Bool). cond b (times n xs + 1) (times n xs)) (eq-eqb x n e)

not-here : (n x : ℕ) (xs : List ℕ) → (x ≡ n → ⊥) → times n (x ∷ xs) ≡ times n xs
not-here n x xs f =
    elim (cases_Bool (nat_eq x n)) as (λ _. times n (x ∷ xs) ≡ times n xs) [
      | inl yes_it ↦ absurd (f (eqb-true x n yes_it))
      | inr not_it ↦ ap (λ (b : Bool). cond b (times n xs + 1) (times n xs)) not_it
    ]

pub times-none : (n : ℕ) (xs : List ℕ) → (In n xs → ⊥) → times n xs ≡ 0
times-none n [] f = refl
times-none n (x ∷ xs) f = not-here n x xs (λ e. f (inl (sym e))) ∙ times-none n xs (λ h. f (inr h))

pub times-one : (n : ℕ) (xs : List ℕ) → Rises itself xs → In n xs → times n xs ≡ 1
times-one n [] r h = absurd h
times-one n (x ∷ xs) r (inl e) =
    let none : times n xs ≡ 0 =
    times-none n xs (λ h. let less : x < n = r.0 n h in omega (arith, e, less)) in
    here n x xs (sym e) ∙ ap (λ (m : ℕ). m + 1) none
times-one n (x ∷ xs) r (inr h) =
    let less : x < n = r.0 n h in
    not-here n x xs (λ e. omega (arith, e, less)) ∙ times-one n xs r.1 h

flag-adds : (b : Bool) (w x y : ℕ) → w ≡ x + y → cond b (w + 1) w ≡ cond b (x + 1) x + y
flag-adds true w x y e = omega (arith, e)
flag-adds false w x y e = e

pub times-both : (n : ℕ) (xs ys : List ℕ) → times n (xs ++ ys) ≡ times n xs + times n ys
times-both n [] ys = let is : times n ys ≡ 0 + times n ys = omega arith in is
times-both n (x ∷ xs) ys =
    flag-adds (nat_eq x n) (times n (xs ++ ys)) (times n xs) (times n ys) (times-both n xs ys)

-- The order of fractions with positive denominators.
use Rattle.std.proofs.Common.{◌≡◌, ℕ, zero, suc, ℤ, pos, ◌+ℤ◌, ◌*ℤ◌, ◌<ℤ◌, ◌≤ℤ◌, Bool, true, false, int_lt, Option}
use Rattle.std.proofs.Common.{Some, None, refl, sym, ap, subst, ◌∙◌, arith}
use Rattle.std.proofs.lemmas.Int.{ints}
use Rattle.std.proofs.Math.IntN.{suc_ℤ-*ℤ, zero-*ℤ, *ℤ_comm}
use Rattle.td_eval.specs.Ranking.{Fraction, is_less}

-- ---- a number taken n times

distributes : (n : ℕ) (x y : ℤ) → pos n *ℤ (x +ℤ y) ≡ (pos n *ℤ x) +ℤ (pos n *ℤ y)
distributes zero x y = rw (zero-*ℤ (x +ℤ y), zero-*ℤ x, zero-*ℤ y) refl
distributes (suc n) x y =
    let a : pos (suc n) *ℤ (x +ℤ y) ≡ (pos n *ℤ (x +ℤ y)) +ℤ (x +ℤ y) = suc_ℤ-*ℤ (pos n) (x +ℤ y) in
    let b : pos (suc n) *ℤ x ≡ (pos n *ℤ x) +ℤ x = suc_ℤ-*ℤ (pos n) x in
    let c : pos (suc n) *ℤ y ≡ (pos n *ℤ y) +ℤ y = suc_ℤ-*ℤ (pos n) y in
    let h : pos n *ℤ (x +ℤ y) ≡ (pos n *ℤ x) +ℤ (pos n *ℤ y) = distributes n x y in
    omega (arith, ints)

takes_zero : (n : ℕ) → pos n *ℤ pos zero ≡ pos zero
takes_zero n = *ℤ_comm (pos n) (pos zero) ∙ zero-*ℤ (pos n)

commutes : (n m : ℕ) (z : ℤ) → pos n *ℤ (pos m *ℤ z) ≡ pos m *ℤ (pos n *ℤ z)
commutes zero m z = zero-*ℤ (pos m *ℤ z) ∙ sym (ap (λ x. pos m *ℤ x) (zero-*ℤ z) ∙ takes_zero m)
commutes (suc n) m z =
    suc_ℤ-*ℤ (pos n) (pos m *ℤ z) ∙ ap (λ x. x +ℤ (pos m *ℤ z)) (commutes n m z)
    ∙ sym (distributes m (pos n *ℤ z) z) ∙ ap (λ x. pos m *ℤ x) (sym (suc_ℤ-*ℤ (pos n) z))

rises : (n : ℕ) (x y : ℤ) → x ≤ℤ y → (pos n *ℤ x) ≤ℤ (pos n *ℤ y)
rises zero x y h =
    let a : pos zero *ℤ x ≡ pos zero = zero-*ℤ x in
    let b : pos zero *ℤ y ≡ pos zero = zero-*ℤ y in
    omega (arith, ints)
rises (suc n) x y h =
    let a : pos (suc n) *ℤ x ≡ (pos n *ℤ x) +ℤ x = suc_ℤ-*ℤ (pos n) x in
    let b : pos (suc n) *ℤ y ≡ (pos n *ℤ y) +ℤ y = suc_ℤ-*ℤ (pos n) y in
    let k : (pos n *ℤ x) ≤ℤ (pos n *ℤ y) = rises n x y h in
    omega (arith, ints)

climbs : (n : ℕ) (x y : ℤ) → x <ℤ y → (pos (suc n) *ℤ x) <ℤ (pos (suc n) *ℤ y)
climbs n x y h =
    let a : pos (suc n) *ℤ x ≡ (pos n *ℤ x) +ℤ x = suc_ℤ-*ℤ (pos n) x in
    let b : pos (suc n) *ℤ y ≡ (pos n *ℤ y) +ℤ y = suc_ℤ-*ℤ (pos n) y in
    let k : (pos n *ℤ x) ≤ℤ (pos n *ℤ y) = rises n x y (omega (arith, ints)) in
    omega (arith, ints)

-- ---- fractions

not_less : (x y : ℤ) → int_lt x y ≡ false → y ≤ℤ x
not_less x y h = grind (arith, ints)

less : (x y : ℤ) → int_lt x y ≡ true → x <ℤ y
less x y h = grind (arith, ints)

is_false : (b : Bool) → (b ≡ true → ⊥) → b ≡ false
is_false true h = absurd (h refl)
is_false false h = refl

-- x/b, y/d and z/f, where x/b isn't below y/d, nor y/d below z/f
over : (b d f : ℕ) (x y z : ℤ) → (pos b *ℤ y) ≤ℤ (pos d *ℤ x) → (pos d *ℤ z) ≤ℤ (pos f *ℤ y) →
    (pos d *ℤ (pos f *ℤ x)) <ℤ (pos d *ℤ (pos b *ℤ z)) → ⊥
over b d f x y z h k l =
    let u : (pos f *ℤ (pos b *ℤ y)) ≤ℤ (pos f *ℤ (pos d *ℤ x)) = rises f _ _ h in
    let v : (pos b *ℤ (pos d *ℤ z)) ≤ℤ (pos b *ℤ (pos f *ℤ y)) = rises b _ _ k in
    let p : pos f *ℤ (pos b *ℤ y) ≡ pos b *ℤ (pos f *ℤ y) = commutes f b y in
    let q : pos d *ℤ (pos f *ℤ x) ≡ pos f *ℤ (pos d *ℤ x) = commutes d f x in
    let r : pos d *ℤ (pos b *ℤ z) ≡ pos b *ℤ (pos d *ℤ z) = commutes d b z in
    omega (arith, ints)

-- the denominator is positive
abbrev pub IsProper : Option Fraction → Type 0
IsProper None = Unit {0}
IsProper (Some x) = (n : ℕ) × (x.1 ≡ pos (suc n))

turned : (x : ℤ) (n : ℕ) → x *ℤ pos n ≡ pos n *ℤ x
turned x n = *ℤ_comm x (pos n)

pub chains : (x y z : Fraction) (b d f : ℕ) → x.1 ≡ pos (suc b) → y.1 ≡ pos (suc d) → z.1 ≡ pos (suc f)
    → is_less x y ≡ false → is_less y z ≡ false → is_less x z ≡ false
chains x y z b d f p q r h k =
    let s : (pos (suc b) *ℤ y.0) ≤ℤ (pos (suc d) *ℤ x.0) =
    not_less _ _ (subst (λ (n : ℤ). int_lt (pos (suc d) *ℤ x.0) n ≡ false) (ap (λ n. y.0 *ℤ n) p ∙ turned y.0 (suc b))
    (subst (λ (n : ℤ). int_lt n (y.0 *ℤ x.1) ≡ false) (ap (λ n. x.0 *ℤ n) q ∙ turned x.0 (suc d)) h)) in
    let t : (pos (suc d) *ℤ z.0) ≤ℤ (pos (suc f) *ℤ y.0) =
    not_less _ _ (subst (λ (n : ℤ). int_lt (pos (suc f) *ℤ y.0) n ≡ false) (ap (λ n. z.0 *ℤ n) q ∙ turned z.0 (suc d))
    (subst (λ (n : ℤ). int_lt n (z.0 *ℤ y.1) ≡ false) (ap (λ n. y.0 *ℤ n) r ∙ turned y.0 (suc f)) k)) in
    is_false (is_less x z) (λ l.
    let m : (pos (suc f) *ℤ x.0) <ℤ (pos (suc b) *ℤ z.0) =
    less _ _ (subst (λ (n : ℤ). int_lt (pos (suc f) *ℤ x.0) n ≡ true) (ap (λ n. z.0 *ℤ n) p ∙ turned z.0 (suc b))
    (subst (λ (n : ℤ). int_lt n (z.0 *ℤ x.1) ≡ true) (ap (λ n. x.0 *ℤ n) r ∙ turned x.0 (suc f)) l)) in
    over (suc b) (suc d) (suc f) x.0 y.0 z.0 s t (climbs d _ _ m))

pub one_sided : (x y : Fraction) → is_less x y ≡ true → is_less y x ≡ false
one_sided x y h =
    let k = less (x.0 *ℤ y.1) (y.0 *ℤ x.1) h in
    is_false (is_less y x) (λ l. let m = less (y.0 *ℤ x.1) (x.0 *ℤ y.1) l in omega (arith, ints))

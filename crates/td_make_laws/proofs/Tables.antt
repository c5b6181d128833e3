-- A fact of each number below a bound.
use Rattle.std.proofs.Common.{◌≡◌, ℕ, zero, suc, ◌<◌, ◌≤◌, nat_lt, Bool, true, false, refl, subst, arith}
use Rattle.std.proofs.lemmas.Bool.{ltb-false, ltb-true}

abbrev pub Upto : ℕ → (ℕ → Type 0) → Type 0
Upto zero P = Unit {0}
Upto (suc n) P = Upto n P × P n

pub at : (P : ℕ → Type 0) (n : ℕ) → Upto n P → (k : ℕ) → k < n → P k
at P zero all k less = absurd (omega arith)
at P (suc n) all k less = by_last (nat_lt k n) refl (at P n all.0 k)
  where
    by_last : (b : Bool) → nat_lt k n ≡ b → (k < n → P k) → P k
    by_last true below earlier = earlier (ltb-true k n below)
    by_last false above earlier =
        let least : n ≤ k = ltb-false k n above in
        let same : n ≡ k = omega (arith, least, less) in
        subst P same all.1

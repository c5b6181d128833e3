-- Numbers of 64 bits have products that fit 128 bits, and a sum that doesn't fit is no numerator.
use Rattle.std.proofs.Common.{◌≡◌, ℕ, zero, suc, ℤ, pos, negsuc, neg_ℤ, ◌*ℤ◌, ◌*◌, ◌^◌, ◌-◌, ◌≤◌, Bool, true, false}
use Rattle.std.proofs.Common.{◌&&◌, if◌then◌else◌, Option, Some, None, refl, arith, lit<}
use Rattle.std.specs.Int.{w64, w128}
use Rattle.std.specs.Prelude.{FitsSigned, unsigned_abs}
use Rattle.std.proofs.lemmas.Int.{fits_signed_mul, unsigned_abs-mul, fits_signed_from_abs}
use Rattle.std.proofs.lemmas.Bool.{ltb-true}
use Rattle.td_eval.specs.declared.simple.Simple.{Simple}
use Rattle.td_eval.specs.declared.simple.Simple.TheVariants.{Number}
use Rattle.td_eval.specs.Fractions.{fraction, in_range}

size_of : (a : ℤ) → FitsSigned w64 a → unsigned_abs a ≤ 2 ^ 63
size_of (pos n) f = omega (arith, f.sfits)
size_of (negsuc n) f = omega (arith, f.sfits)

pub product_fits : (a b : ℤ) → FitsSigned w64 a → FitsSigned w64 b → FitsSigned w128 (a *ℤ b)
product_fits a b f g = fits_signed_mul w128 a b (2 ^ 63) (2 ^ 63) (size_of a f) (size_of b g) (lit< tt)

bounded : (x y m : ℕ) → x ≤ m → y ≤ m → x * y ≤ m * m
bounded x y m h k = grind arith

pub product_size : (a b : ℤ) → FitsSigned w64 a → FitsSigned w64 b → unsigned_abs (a *ℤ b) ≤ 2 ^ 126
product_size a b f g =
    rw unsigned_abs-mul (bounded (unsigned_abs a) (unsigned_abs b) (2 ^ 63) (size_of a f) (size_of b g))

pub opposite_fits : (a : ℤ) → unsigned_abs a ≤ 2 ^ 126 → FitsSigned w128 (neg_ℤ a)
opposite_fits (pos zero) h = fits_signed_from_abs w128 (pos zero) (lit< tt)
opposite_fits (pos (suc n)) h = fits_signed_from_abs w128 (negsuc n) (omega arith)
opposite_fits (negsuc n) h = fits_signed_from_abs w128 (pos (suc n)) (omega arith)

and_left : (a b : Bool) → (a && b) ≡ true → a ≡ true
and_left true b h = refl
and_left false b h = h

in_range-fits : (n d : ℤ) → in_range n d ≡ true → FitsSigned w128 n
in_range-fits (pos k) d h =
    fits_signed_from_abs w128 (pos k) (let low = ltb-true k (2 ^ 63) (and_left _ _ h) in omega arith)
in_range-fits (negsuc k) d h =
    fits_signed_from_abs w128 (negsuc k) (let low = ltb-true k (2 ^ 63 - 1) (and_left _ _ h) in omega arith)

none_if : (b : Bool) (P : Type 0) (x : Option Simple) → (b ≡ true → P) → (P → ⊥) → None ≡ (if b then x else None)
none_if true P x f g = absurd (g (f refl))
none_if false P x f g = refl

pub unfit : (n d : ℤ) → (FitsSigned w128 n → ⊥) → None ≡ fraction n d
unfolding fraction
unfit n d h = none_if (in_range n d) (FitsSigned w128 n) (Some (Number n d)) (in_range-fits n d) h

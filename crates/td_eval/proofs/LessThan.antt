-- What a comparison of numbers says of `<`.
use Rattle.std.proofs.Common.{◌≡◌, cond, Bool, true, false, ℤ, int_lt, refl}
use Rattle.std.specs.Ordering.{is_lt, int_cmp}
use Rattle.std.specs.declared.cmp.Ordering.TheVariants.{Less, Equal, Greater}

by_tests : (p q : Bool) → is_lt (cond p Less (cond q Greater Equal)) ≡ p
by_tests true q = refl
by_tests false true = refl
by_tests false false = refl

pub lt_of_cmp : (a b : ℤ) → is_lt (int_cmp a b) ≡ int_lt a b
lt_of_cmp a b = by_tests (int_lt a b) (int_lt b a)

-- Trading Object Service, "The Constraint Language", on arithmetic.
-- Numbers as fractions n/d, which are never reduced: |n| is at most 2^63 - 1, and d lies from 1 to 2^63 - 1. A result
-- outside has no value.
use Rattle.std.specs.Prelude.{ℤ, pos, negsuc, neg_ℤ, ◌+ℤ◌, ◌-ℤ◌, ◌*ℤ◌, int_lt, ◌^◌, ◌-◌, Bool, ◌&&◌, if◌then◌else◌}
use Rattle.std.specs.Prelude.{Option, None, Some}
use Rattle.td_eval.specs.declared.simple.Simple.{Simple}
use Rattle.td_eval.specs.declared.simple.Simple.TheVariants.{Number}

abbrev pub in_range : ℤ → ℤ → Bool
in_range n d =
    int_lt (negsuc (2 ^ 63 - 1)) n
    && (int_lt n (pos (2 ^ 63)) && (int_lt (pos 0) d && int_lt d (pos (2 ^ 63))))

unfoldable pub fraction : ℤ → ℤ → Option Simple
fraction n d = if in_range n d then Some (Number n d) else None

-- both signs are turned where the denominator is negative
unfoldable pub with_denominator_turned : ℤ → ℤ → Option Simple
with_denominator_turned n d = if int_lt d (pos 0) then fraction (neg_ℤ n)
    (neg_ℤ d) else fraction n d

-- a/b + c/d, a/b - c/d, a/b * c/d, and a/b divided by c/d, which has no value where c is 0: 0 is no denominator
abbrev pub sum : Simple → Simple → Option Simple
sum (Number a b) (Number c d) = fraction ((a *ℤ d) +ℤ (c *ℤ b)) (b *ℤ d)
sum x y = None

abbrev pub difference : Simple → Simple → Option Simple
difference (Number a b) (Number c d) = fraction ((a *ℤ d) -ℤ (c *ℤ b)) (b *ℤ d)
difference x y = None

abbrev pub product : Simple → Simple → Option Simple
product (Number a b) (Number c d) = fraction (a *ℤ c) (b *ℤ d)
product x y = None

abbrev pub quotient : Simple → Simple → Option Simple
quotient (Number a b) (Number c d) = with_denominator_turned (a *ℤ d) (b *ℤ c)
quotient x y = None

-- The lesser of two rules permits no more than either.
use Rattle.std.proofs.Common.{◌≡◌, Option, Some, None, unwrap_or, lit≤, arith}
use Rattle.td_value.specs.declared.enumerations.FollowOption.{FollowOption}
use Rattle.td_value.specs.declared.enumerations.FollowOption.TheVariants.{LocalOnly, IfNoLocal, Always}
use Rattle.td_policy.specs.Rules.{IsAtMost, lesser, passed_on}

pub first_bounds : (a b : FollowOption) → IsAtMost (lesser a b) a
first_bounds LocalOnly LocalOnly = lit≤ tt
first_bounds LocalOnly IfNoLocal = lit≤ tt
first_bounds LocalOnly Always = lit≤ tt
first_bounds IfNoLocal LocalOnly = lit≤ tt
first_bounds IfNoLocal IfNoLocal = lit≤ tt
first_bounds IfNoLocal Always = lit≤ tt
first_bounds Always LocalOnly = lit≤ tt
first_bounds Always IfNoLocal = lit≤ tt
first_bounds Always Always = lit≤ tt

pub second_bounds : (a b : FollowOption) → IsAtMost (lesser a b) b
second_bounds LocalOnly LocalOnly = lit≤ tt
second_bounds LocalOnly IfNoLocal = lit≤ tt
second_bounds LocalOnly Always = lit≤ tt
second_bounds IfNoLocal LocalOnly = lit≤ tt
second_bounds IfNoLocal IfNoLocal = lit≤ tt
second_bounds IfNoLocal Always = lit≤ tt
second_bounds Always LocalOnly = lit≤ tt
second_bounds Always IfNoLocal = lit≤ tt
second_bounds Always Always = lit≤ tt

is_at_most_along : (a b c : FollowOption) → IsAtMost a b → IsAtMost b c → IsAtMost a c
is_at_most_along a b c ab bc = omega (arith, ab, bc)

-- of the least of three

pub least_first : (a b c : FollowOption) → IsAtMost (lesser (lesser a b) c) a
least_first a b c =
    is_at_most_along (lesser (lesser a b) c) (lesser a b) a (first_bounds (lesser a b) c) (first_bounds a b)

pub least_second : (a b c : FollowOption) → IsAtMost (lesser (lesser a b) c) b
least_second a b c =
    is_at_most_along (lesser (lesser a b) c) (lesser a b) b (first_bounds (lesser a b) c) (second_bounds a b)

pub followed_stated : (m l d r : FollowOption) (stated : Option FollowOption) → stated ≡ Some r
    → IsAtMost (lesser (lesser m l) (unwrap_or stated d)) r
followed_stated m l d r stated is = rw is (second_bounds (lesser m l) r)

pub passed_maximum : (stated : Option FollowOption) (m l d : FollowOption) → IsAtMost (passed_on stated m l d) m
passed_maximum None m l d = first_bounds m d
passed_maximum (Some r) m l d = least_first m l r

pub passed_limiting : (stated : Option FollowOption) (m l d r : FollowOption) → stated ≡ Some r
    → IsAtMost (passed_on stated m l d) l
passed_limiting stated m l d r is = rw is (least_second m l r)

pub passed_stated : (stated : Option FollowOption) (m l d r : FollowOption) → stated ≡ Some r
    → IsAtMost (passed_on stated m l d) r
passed_stated stated m l d r is = rw is (second_bounds (lesser m l) r)

pub passed_unstated : (stated : Option FollowOption) (m l d : FollowOption) → stated ≡ None
    → IsAtMost (passed_on stated m l d) d
passed_unstated stated m l d is = rw is (second_bounds m d)

-- The reserved octets of a Request.
use Rattle.std.proofs.Common.{◌≡◌, ℕ, zero, suc, ◌+◌, ◌≢◌, List, [], ◌∷◌, ◌++◌, length, refl, arith, ap, ◌∙◌}
use Rattle.td_cdr.specs.declared.order.Order.{Order}
use Rattle.td_cdr.specs.declared.order.Order.TheVariants.{Big, Little}
use Rattle.td_cdr.specs.Gap.{gap}
use Rattle.td_giop.specs.Fields.{octet}
use Rattle.td_giop.specs.Heads.{reserved_field}

-- an octet has no padding
gap-one : (place : ℕ) → gap 1 place ≡ 0
gap-one place = omega arith

one-zero : (order : Order) (place : ℕ) → octet.format.writes 0 order place ≡ 0 ∷ []
one-zero Big place = rw (gap-one place) refl
one-zero Little place = rw (gap-one place) refl

pub some-reserved : (newer : ℕ) (order : Order) (place : ℕ)
    → (reserved_field (suc newer)).format.writes tt order place ≡ 0 ∷ 0 ∷ 0 ∷ []
some-reserved newer order place =
    rw (one-zero order place)
    (rw (one-zero order (place + 1)) (rw (one-zero order (place + 1 + 1)) refl))

-- what a Request of this version has there
pub none-there : (minor : ℕ) (order : Order) (place : ℕ) → minor ≡ 0
    → (reserved_field minor).format.writes tt order place ≡ []
none-there zero order place e = refl
none-there (suc newer) order place e = absurd (omega (arith, e))

pub some-there : (minor : ℕ) (order : Order) (place : ℕ) → (minor ≡ 0 → ⊥)
    → (reserved_field minor).format.writes tt order place ≡ 0 ∷ 0 ∷ 0 ∷ []
some-there zero order place e = absurd (e refl)
some-there (suc newer) order place e = some-reserved newer order place

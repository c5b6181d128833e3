-- A value that is stated is there.
use Rattle.std.proofs.Common.{◌≡◌, Bool, true, false, Option, Some, None, Ok, Err, refl, if◌then◌else◌}
use Rattle.td_typecode.specs.Same.{same}
use Rattle.td_policy.specs.Stated.{stated_value, valid}
use Rattle.td_policy.specs.Values.{PolicyKind}
use Rattle.td_policy.specs.declared.fault.PolicyFault.TheVariants as fault
use Rattle.td_value.specs.declared.structures.Policy.{Policy}
use Rattle.td_walk.specs.Passing.{value_in}

pub held : {A : Type 0} (kind : PolicyKind A) (p : Policy) (x : Option A) → stated_value kind p ≡ Ok x
    → (y : A) × (x ≡ Some y) × (value_in kind p ≡ Some y)
held {A} kind p x e = by_type (same p.value.code kind.code) (kind.value_of p.value.value) e
  where
    by_type : (b : Bool) (o : Option A) → (if b then valid p o else Err (fault.PolicyTypeMismatch p)) ≡ Ok x
        → (y : A) × (x ≡ Some y) × ((if b then o else None) ≡ Some y)
    by_type true None e = absurd cc
    by_type true (Some y) e = (y, cc, refl)
    by_type false o e = absurd cc

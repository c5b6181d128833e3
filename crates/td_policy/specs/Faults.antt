-- What a call answers that reads policies: what its definition comes to, or running out of memory.
use Rattle.std.specs.Prelude.{◌≡◌, Bool, true, false, Result}
use Rattle.td_cdr.specs.Format.{Unless, Computes}
use Rattle.td_policy.specs.declared.fault.PolicyFault.{PolicyFault}
use Rattle.td_policy.specs.declared.fault.PolicyFault.TheVariants as fault

abbrev pub is_memory : PolicyFault → Bool
is_memory (fault.DuplicatePolicyName name) = false
is_memory (fault.IllegalPolicyName name) = false
is_memory (fault.PolicyTypeMismatch policy) = false
is_memory (fault.InvalidPolicyValue policy) = false
is_memory fault.Memory = true

-- this fault, or running out of memory
abbrev pub IsFault : PolicyFault → PolicyFault → Type 0
IsFault f e = Unless (is_memory e) (e ≡ f)

-- a call that leaves its value in an argument comes to this, or to running out of memory
abbrev pub LeavesValue : {U X : Type 0} → Result X PolicyFault → (new : X) → Result U PolicyFault
    → Type 0
LeavesValue comes new result = Computes is_memory (λ u. new) result comes

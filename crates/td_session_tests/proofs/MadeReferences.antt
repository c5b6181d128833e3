-- The references of the tests' scripts can be written.
use Rattle.std.proofs.Common.{◌≡◌, ℕ, List, Result, Ok, Err, IfOk, sym, subst}
use Rattle.td_cdr.specs.Text.{HasNoNul}
use Rattle.td_cdr.specs.declared.memory.Memory.{Memory}
use Rattle.td_typecode.specs.References.{reference}
use Rattle.td_typecode.specs.declared.reference.Ior.{Ior}
use Rattle.td_ior.specs.Profiles.{made_reference}
use Rattle.td_servant.proofs.Admitted.{made_writes}

pub made_admitted : (r : Result Ior Memory) (id host : List ℕ) (port : ℕ) (key : List ℕ) (minor : ℕ) → HasNoNul id
    → IfOk r (λ x. x ≡ made_reference id host port key minor) → IfOk r (λ x. reference.format.admits x)
made_admitted (Ok x) id host port key minor n is =
    subst reference.format.admits (sym is) (made_writes id host port key minor n)
made_admitted (Err e) id host port key minor n is = tt

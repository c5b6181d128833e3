-- The values of the tests' scripts can be written, since they were read.
use Rattle.std.proofs.Common.{◌≡◌, Result, Ok, Err, IfOk, sym, subst}
use Rattle.td_cdr.specs.declared.memory.Memory.{Memory}
use Rattle.td_typecode.specs.Values.{any_value}
use Rattle.td_typecode.specs.declared.code.Any.{Any}

pub boxed_admitted : (r : Result Any Memory) (v : Any) → any_value.format.admits v → IfOk r (λ x. x ≡ v)
    → IfOk r (λ x. any_value.format.admits x)
boxed_admitted (Ok x) v h is = subst any_value.format.admits (sym is) h
boxed_admitted (Err e) v h is = tt

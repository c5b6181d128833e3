-- Each operation of an object is found by its name.
use Rattle.std.proofs.Common.{◌≡◌, codes, map, Some, Err, refl}
use Rattle.td_cdr.specs.Place.{At}
use Rattle.td_ops.specs.declared.fault.OpsFault.TheVariants.{NoImplement}
use Rattle.td_name_ops.specs.Calls.{call_read}
use Rattle.td_name_ops.specs.Operations.{name_of, operation_named, operations}
use Rattle.td_name_ops.specs.declared.operation.NameKind.{NameKind}
use Rattle.td_name_ops.specs.declared.operation.NameKind.TheVariants as kind
use Rattle.td_name_ops.specs.declared.operation.NameOperation.TheVariants.{NonExistent}

pub operations-found : (k : NameKind)
    → map (λ o. operation_named k (name_of o)) (operations k) ≡ map (λ o. Some o) (operations k)
operations-found kind.Context = refl
operations-found kind.Iterator = refl

pub second-found : (k : NameKind) → operation_named k (codes "_not_existent") ≡ Some NonExistent
second-found kind.Context = refl
second-found kind.Iterator = refl

pub not_implemented : (a : At) → call_read kind.Context (codes "rebind_context") a ≡ Err NoImplement
not_implemented a = refl

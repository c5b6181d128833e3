-- What holds of all calls and exceptions.
use Rattle.std.specs.Prelude.{◌≡◌, ℕ, ◌-◌, ◌≤◌, ◌↔◌, List, ◌++◌, length, map, codes, Some, None, Ok, Err}
use Rattle.td_cdr.specs.Place.{At}
use Rattle.td_cdr.specs.Reading.{after}
use Rattle.td_cdr.specs.Spelling.{FoundSpelling}
use Rattle.td_ops.specs.declared.fault.OpsFault.TheVariants.{BadOperation, NoImplement}
use Rattle.td_name_ops.specs.Calls.{Body, call_read}
use Rattle.td_name_ops.specs.Operations.{name_of, operation_named, operations}
use Rattle.td_name_ops.specs.declared.call.NameCall.{NameCall}
use Rattle.td_name_ops.specs.declared.operation.NameKind.{NameKind}
use Rattle.td_name_ops.specs.declared.operation.NameKind.TheVariants.{Context}
use Rattle.td_name_ops.specs.declared.operation.NameOperation.TheVariants.{NonExistent}

-- each operation of an object is found by its name
abbrev pub AreFound : Type 0
AreFound =
    (kind : NameKind)
    → map (λ o. operation_named kind (name_of o)) (operations kind)
    ≡ map (λ o. Some o) (operations kind)

abbrev pub SecondName : Type 0
SecondName = (kind : NameKind) → operation_named kind (codes "_not_existent") ≡ Some NonExistent

-- rebind_context isn't implemented, whatever its body
abbrev pub IsNotImplemented : Type 0
IsNotImplemented = (a : At) → call_read Context (codes "rebind_context") a ≡ Err NoImplement

-- what is read of a call is spelled so
abbrev pub ReadAsSpelled : Type 0
ReadAsSpelled =
    (kind : NameKind) (called : List ℕ) (a : At) (c : NameCall) (next : At) → a.origin ≤ a.place
    → call_read kind called a ≡ Ok (c, next) → FoundSpelling (Body kind called) a c next

-- what is spelled so is read, whatever follows
abbrev pub SpelledIsRead : Type 0
SpelledIsRead =
    (kind : NameKind) (called : List ℕ) (a : At) (c : NameCall) (b rest : List ℕ)
    → a.origin ≤ a.place → Body kind called a.order (a.place - a.origin) c b → a.rest ≡ b ++ rest
    → call_read kind called a ≡ Ok (c, after (length b) a)

-- BAD_OPERATION comes exactly where the object has no operation of the name
abbrev pub UnknownIsRefused : Type 0
UnknownIsRefused =
    (kind : NameKind) (called : List ℕ) (a : At)
    → (call_read kind called a ≡ Err BadOperation) ↔ (operation_named kind called ≡ None)

-- What holds of all calls and replies.
use Rattle.std.specs.Prelude.{◌≡◌, ℕ, ◌-◌, ◌^◌, ◌<◌, ◌≤◌, ◌↔◌, List, ◌++◌, length, map, codes, Some, None, Ok, Err}
use Rattle.td_cdr.specs.declared.order.Order.{Order}
use Rattle.td_cdr.specs.Place.{At}
use Rattle.td_cdr.specs.Reading.{after}
use Rattle.td_cdr.specs.Spelling.{FoundSpelling}
use Rattle.td_value.specs.declared.key.Kind.{Kind}
use Rattle.td_value.specs.declared.key.Kind.TheVariants.{Admin}
use Rattle.td_ops.specs.declared.call.Call.{Call}
use Rattle.td_ops.specs.declared.operation.Operation.{Operation}
use Rattle.td_ops.specs.declared.operation.Operation.TheVariants.{NonExistent}
use Rattle.td_ops.specs.declared.fault.OpsFault.TheVariants.{BadOperation, Marshal, NoImplement}
use Rattle.td_ops.specs.declared.outcome.Outcome.{Outcome}
use Rattle.td_ops.specs.Called.{operation_in}
use Rattle.td_ops.specs.Operations.{operations, operation_named, name_of}
use Rattle.td_ops.specs.Calls.{Body, AdmitsCall, body_of, call_piece, call_read}
use Rattle.td_ops.specs.Outcomes.{outcome_piece, outcome_status}
use Rattle.td_ops.specs.Answers.{AdmitsOutcome, client_answer, outcome_read, answer_piece}
use Rattle.td_ops.specs.BodyFaults.{UnsupportedKind, Misspelling, IsUnknown, IsNotImplemented, IsMisspelled}
use Rattle.td_ops.specs.BodyFaults.{answer_faults}

-- each operation of an object is found by its name
abbrev pub AreFound : Type 0
AreFound =
    (kind : Kind) → map (λ o. operation_named kind (name_of o)) (operations kind)
    ≡ map (λ o. Some o) (operations kind)

abbrev pub SecondName : Type 0
SecondName = (kind : Kind) → operation_named kind (codes "_not_existent") ≡ Some NonExistent

abbrev pub RepositoryStays : Type 0
RepositoryStays = (a : At) → call_read Admin (codes "set_type_repos") a ≡ Err NoImplement

-- what is read of a call is spelled so
abbrev pub ReadAsSpelled : Type 0
ReadAsSpelled = (kind : Kind) (name : List ℕ) (a : At) (c : Call) (next : At)
    → a.origin ≤ a.place → call_read kind name a ≡ Ok (c, next)
    → FoundSpelling (Body kind name) a c next

-- what is spelled so is read, whatever follows
abbrev pub SpelledIsRead : Type 0
SpelledIsRead = (kind : Kind) (name : List ℕ) (a : At) (c : Call) (b rest : List ℕ)
    → a.origin ≤ a.place → Body kind name a.order (a.place - a.origin) c b → a.rest ≡ b ++ rest
    → call_read kind name a ≡ Ok (c, after (length b) a)

abbrev pub UnknownIsRefused : Type 0
UnknownIsRefused =
    (kind : Kind) (name : List ℕ) (a : At)
    → (call_read kind name a ≡ Err BadOperation) ↔ (operation_named kind name ≡ None)

-- what is spelled under an operation is a call of it
abbrev pub IsCalled : Type 0
IsCalled = (operation : Operation) (order : Order) (place : ℕ) (c : Call) (b : List ℕ)
    → (body_of operation).spells order place c b → operation_in c ≡ operation

-- what is written for a call is read as that call, by an object that has the operation
abbrev pub CallReadsBack : Type 0
CallReadsBack = (kind : Kind) (c : Call) (a : At) (rest : List ℕ)
    → operation_named kind (name_of (operation_in c)) ≡ Some (operation_in c) → AdmitsCall c
    → a.origin ≤ a.place → length (call_piece c a.order (a.place - a.origin)) < 2 ^ 32
    → a.rest ≡ call_piece c a.order (a.place - a.origin) ++ rest
    → call_read kind (name_of (operation_in c)) a
    ≡ Ok (c, after (length (call_piece c a.order (a.place - a.origin))) a)

-- what is written for an outcome is read, under its status, as what a client is told of it
abbrev pub OutcomeReadsBack : Type 0
OutcomeReadsBack =
    (c : Call) (o : Outcome) (a : At) (rest : List ℕ) → AdmitsOutcome (operation_in c) o
    → a.origin ≤ a.place → length (outcome_piece o a.order (a.place - a.origin)) < 2 ^ 32
    → a.rest ≡ outcome_piece o a.order (a.place - a.origin) ++ rest
    → outcome_read c (outcome_status o) a
    ≡ Ok (client_answer o, after (length (answer_piece o a.order (a.place - a.origin))) a)

-- ---- why a body is refused

-- BAD_OPERATION, whatever the body
abbrev pub BadOperationIsUnknown : Type 0
BadOperationIsUnknown =
    (kind : Kind) (name : List ℕ) (a : At) → (call_read kind name a ≡ Err BadOperation)
    ↔ IsUnknown kind name

abbrev pub NoImplementIsLeftOut : Type 0
NoImplementIsLeftOut = (kind : Kind) (name : List ℕ) (a : At) → a.origin ≤ a.place
    → (call_read kind name a ≡ Err NoImplement) ↔ IsNotImplemented kind name a

abbrev pub MarshalIsMisspelled : Type 0
MarshalIsMisspelled = (kind : Kind) (name : List ℕ) (a : At) (place : ℕ) → a.origin ≤ a.place
    → (call_read kind name a ≡ Err (Marshal place)) ↔ IsMisspelled kind name a place

-- the same of a reply to a call
abbrev pub ReplyIsLeftOut : Type 0
ReplyIsLeftOut = (c : Call) (status : ℕ) (a : At) → a.origin ≤ a.place
    → (outcome_read c status a ≡ Err NoImplement)
    ↔ UnsupportedKind (answer_faults (operation_in c) status) a

abbrev pub ReplyIsMisspelled : Type 0
ReplyIsMisspelled = (c : Call) (status : ℕ) (a : At) (place : ℕ) → a.origin ≤ a.place
    → (outcome_read c status a ≡ Err (Marshal place))
    ↔ Misspelling (answer_faults (operation_in c) status) a place

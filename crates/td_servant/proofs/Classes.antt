-- A body is read under an operation as a call of its class.
use Rattle.std.proofs.Common.{◌≡◌, ℕ, ◌≤◌, ◌-◌, List, Option, Some, None, Result, Ok, Err, IfErr, true, false, refl, sym}
use Rattle.std.proofs.Common.{ap, subst, ◌∙◌}
use Rattle.td_cdr.specs.Format.{Read}
use Rattle.td_cdr.specs.Place.{At}
use Rattle.td_cdr.specs.Reading.{◌>>=◌}
use Rattle.td_cdr.specs.declared.value_fault.ValueFault.{ValueFault}
use Rattle.td_ops.proofs.Tags.{called}
use Rattle.td_ops.specs.Called.{operation_in}
use Rattle.td_ops.specs.Calls.{body_of, call_read, read_under}
use Rattle.td_ops.specs.Operations.{operation_named, row}
use Rattle.td_ops.specs.Parameters.{query}
use Rattle.td_ops.specs.Refusals.{reading_of}
use Rattle.td_ops.specs.declared.call.Call.{Call as Asked}
use Rattle.td_ops.specs.declared.call.Call.TheVariants as call
use Rattle.td_ops.specs.declared.call.Query.{Query as Question}
use Rattle.td_ops.specs.declared.operation.Operation.{Operation}
use Rattle.td_ops.specs.declared.operation.Operation.TheVariants as operation
use Rattle.td_servant.specs.Classes.{IsOfClass, class_named, class_of, is_query}
use Rattle.td_servant.specs.Judging.{judged_reading}
use Rattle.td_servant.specs.declared.class.RequestClass.{RequestClass}
use Rattle.td_servant.specs.declared.class.RequestClass.TheVariants.{Query, Other}
use Rattle.td_servant.specs.declared.judging.Judged.{Judged}
use Rattle.td_servant.specs.declared.judging.Judged.TheVariants.{Call}
use Rattle.td_servant.specs.declared.objects.Object.{Object}

-- a call is of its class
its-class : (x : Object) (c : Asked) → IsOfClass (class_of c) (Call x c)
its-class x (call.Query q) = refl
its-class x c = refl

pub of_its_class : (k : RequestClass) (x : Object) (c : Asked) → k ≡ class_of c → IsOfClass k (Call x c)
of_its_class k x c e = subst (λ (y : RequestClass). IsOfClass y (Call x c)) (sym e) (its-class x c)

query-read : (x : Object) (r : Read ValueFault Question)
    → IsOfClass Query (judged_reading x (reading_of (r >>= λ p. Ok (call.Query p.0, p.1))))
query-read x (Ok p) = refl
query-read x (Err f) = tt

-- a call of an operation of another class is no query
other-call : (x : Object) (o : Operation) (c : Asked) → class_named (Some o) ≡ Other → operation_in c ≡ o
    → is_query (Call x c) ≡ false
other-call x o (call.Query q) other same =
    let bad : Query ≡ Other = ap (λ (p : Operation). class_named (Some p)) same ∙ other in
    absurd (let no : ⊥ = cc in no)
other-call x o c other same = refl

other-read : (x : Object) (o : Operation) (r : Read ValueFault Asked) → class_named (Some o) ≡ Other
    → ((p : Asked × At) → r ≡ Ok p → operation_in p.0 ≡ o) → is_query (judged_reading x (reading_of r)) ≡ false
other-read x o (Ok p) other same = other-call x o p.0 other (same p refl)
other-read x o (Err f) other same = refl

-- what was read under an operation is a call of it
read-called : (o : Operation) (a : At) → a.origin ≤ a.place → (p : Asked × At) → (body_of o).reads a ≡ Ok p
    → operation_in p.0 ≡ o
read-called o a h p is =
    let f = (row o).body.lawful.found a p.0 p.1 h is in
    called o a.order (a.place - a.origin) p.0 f.bytes f.spelled

under-class : (x : Object) (o : Option Operation) (a : At) → a.origin ≤ a.place
    → IsOfClass (class_named o) (judged_reading x (read_under o a))
under-class x None a h = refl
under-class x (Some operation.Query) a h = query-read x (query.format.reads a)
under-class x (Some o) a h = other-read x o ((body_of o).reads a) refl (read-called o a h)

pub read-class : (x : Object) (name : List ℕ) (a : At) → a.origin ≤ a.place
    → IsOfClass (class_named (operation_named x.kind name)) (judged_reading x (call_read x.kind name a))
read-class x name a h = under-class x (operation_named x.kind name) a h

-- ---- when memory ran out to read a call, its class is told

pub err-class : (r : Result Judged RequestClass) (k m : RequestClass) → IfErr r (λ c. c ≡ k) → k ≡ m
    → IfErr r (λ c. c ≡ m)
err-class (Ok j) k m h e = tt
err-class (Err c) k m h e = h ∙ e

pub err-of-class : (r : Result Judged RequestClass) (k m : RequestClass) (j : Judged) → IfErr r (λ c. c ≡ k) → k ≡ m
    → IsOfClass m j → IfErr r (λ c. IsOfClass c j)
err-of-class (Ok x) k m j h e of_class = tt
err-of-class (Err c) k m j h e of_class = subst (λ (x : RequestClass). IsOfClass x j) (sym (h ∙ e)) of_class

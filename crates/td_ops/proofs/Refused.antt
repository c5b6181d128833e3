-- Bodies are refused exactly where their bytes are at fault.
use Rattle.std.proofs.Common.{◌≡◌, ℕ, ◌≤◌, List, [], ◌∷◌, Bool, true, false, if◌then◌else◌, Option, Some, None, Ok, Err}
use Rattle.std.proofs.Common.{refl, ap, ◌∙◌}
use Rattle.std.specs.Prelude.{◌↔◌}
use Rattle.std.specs.List.{AllByRecursion}
use Rattle.std.specs.Str.{bytes_eq}
use Rattle.td_cdr.specs.Place.{At}
use Rattle.td_cdr.specs.Format.{Read, value_named}
use Rattle.td_cdr.specs.Faults.{Refuses}
use Rattle.td_cdr.specs.FormatFaults.{Faults}
use Rattle.td_cdr.specs.declared.fault.CdrFault.TheVariants as cdr
use Rattle.td_cdr.specs.declared.value_fault.ValueFault.{ValueFault}
use Rattle.td_cdr.specs.declared.value_fault.ValueFault.TheVariants as value
use Rattle.td_value.specs.declared.key.Kind.{Kind}
use Rattle.td_ops.specs.declared.fault.OpsFault.{OpsFault}
use Rattle.td_ops.specs.declared.fault.OpsFault.TheVariants.{BadOperation, NoImplement, Marshal}
use Rattle.td_ops.specs.declared.call.Call.{Call}
use Rattle.td_ops.specs.declared.operation.Operation.{Operation}
use Rattle.td_ops.specs.Operations.{first_name, name_of, operations, operation_named, row}
use Rattle.td_ops.specs.Refusals.{fault_of, reading_of}
use Rattle.td_ops.specs.Calls.{body_of, call_read, read_under}
use Rattle.td_ops.specs.Called.{operation_in}
use Rattle.td_ops.specs.Answers.{answer_of, outcome_read}
use Rattle.td_ops.specs.BodyFaults.{UnsupportedKind, Misspelling, IsUnknown, IsNotImplemented, IsMisspelled}
use Rattle.td_ops.specs.BodyFaults.{parameter_faults, answer_faults}
use Rattle.td_ops.proofs.Told.{call-unknown}

-- ---- a fault of values, and what a caller is told

content_fault : {X : Type 0} (r : Read ValueFault X) (e : OpsFault) → reading_of r ≡ Err e
    → (f : ValueFault) × (r ≡ Err f) × (fault_of f ≡ e)
content_fault (Ok x) e t = absurd cc
content_fault (Err f) e t = (f, refl, cc)

left_out : (f : ValueFault) → fault_of f ≡ NoImplement → (code : ℕ) × (f ≡ value.Unsupported code)
left_out (value.Cdr (cdr.Short place)) e = absurd cc
left_out (value.Cdr (cdr.BadBoolean place)) e = absurd cc
left_out (value.Cdr (cdr.BadString place)) e = absurd cc
left_out (value.Cdr (cdr.TooLong place)) e = absurd cc
left_out (value.Cdr cdr.Memory) e = absurd cc
left_out (value.BadKind place) e = absurd cc
left_out (value.BadValue place) e = absurd cc
left_out (value.Unsupported code) e = (code, refl)
left_out (value.Depth place) e = absurd cc
left_out (value.Indirection place) e = absurd cc
left_out value.Memory e = absurd cc

module _ {X : Type 0} (faults : Faults ValueFault) (reading : At → Read ValueFault X) (refuses : Refuses faults reading)
    (a : At) (h : a.origin ≤ a.place) where
  pub kind-refused : (reading_of (reading a) ≡ Err NoImplement) ↔ UnsupportedKind faults a
  kind-refused = (
    λ e. let t = content_fault (reading a) NoImplement e in
        let code = left_out t.0 t.2 in
        record {
          code = code.0;
          holds = refuses.content a (value.Unsupported code.0) h
              (t.1 ∙ ap (λ (f : ValueFault). Err f) code.1);
        },
    λ u. ap reading_of (refuses.only a (value.Unsupported u.code) h u.holds),
  )

  pub place-refused : (place : ℕ) → (reading_of (reading a) ≡ Err (Marshal place)) ↔ Misspelling faults a place
  place-refused place = (
    λ e. let t = content_fault (reading a) (Marshal place) e in
        record { fault = t.0; holds = refuses.content a t.0 h t.1; content = t.2 },
    λ m. ap reading_of (refuses.only a m.fault h m.holds) ∙ ap (λ (e : OpsFault). Err e) m.content,
  )

-- ---- a name that no operation has

none-parts : (b : Bool) (k : Operation) (o : Option Operation) → (if b then Some k else o) ≡ None
    → (b ≡ false) × (o ≡ None)
none-parts true k o e = absurd cc
none-parts false k o e = (refl, e)

none-made : (b : Bool) (k : Operation) (o : Option Operation) → b ≡ false → o ≡ None → (if b then Some k else o) ≡ None
none-made true k o n e = absurd cc
none-made false k o n e = e

named-none : (ks : List Operation) (name : List ℕ) → value_named name_of ks name ≡ None
    → AllByRecursion (λ o. bytes_eq name (name_of o) ≡ false) ks
named-none [] name e = tt
named-none (k ∷ ks) name e =
    let p = none-parts (bytes_eq name (name_of k)) k (value_named name_of ks name) e in
    (p.0, named-none ks name p.1)

none-named : (ks : List Operation) (name : List ℕ) → AllByRecursion (λ o. bytes_eq name (name_of o) ≡ false) ks
    → value_named name_of ks name ≡ None
none-named [] name n = refl
none-named (k ∷ ks) name n =
    none-made (bytes_eq name (name_of k)) k (value_named name_of ks name) n.0 (none-named ks name n.1)

pub unknown-refused : (kind : Kind) (name : List ℕ) (a : At)
    → (call_read kind name a ≡ Err BadOperation) ↔ IsUnknown kind name
unknown-refused kind name a = (
  λ e. named-none (operations kind) (first_name name) ((call-unknown kind name a).0 e),
  λ n. (call-unknown kind name a).1 (none-named (operations kind) (first_name name) n),
)

-- ---- the parameters of an operation that has the name

under_other : (o : Option Operation) (a : At) (e : OpsFault) → (BadOperation ≡ e → ⊥) → read_under o a ≡ Err e
    → (operation : Operation) × (o ≡ Some operation) × (reading_of ((body_of operation).reads a) ≡ Err e)
under_other (Some operation) a e other is = (operation, refl, is)
under_other None a e other is = absurd (other cc)

pub parameters-refused : (operation : Operation) → Refuses (parameter_faults operation) (body_of operation).reads
parameters-refused operation = (row operation).body.refuses

not_implemented-read : (kind : Kind) (name : List ℕ) (a : At) → a.origin ≤ a.place → IsNotImplemented kind name a
    → call_read kind name a ≡ Err NoImplement
not_implemented-read kind name a h (IsNotImplemented.repository named) = rw named refl
not_implemented-read kind name a h (IsNotImplemented.unsupported operation named u) =
    rw named ((kind-refused (parameter_faults operation) (body_of operation).reads (parameters-refused operation) a h).1
    u)

pub not_implemented-refused : (kind : Kind) (name : List ℕ) (a : At) → a.origin ≤ a.place
    → (call_read kind name a ≡ Err NoImplement) ↔ IsNotImplemented kind name a
not_implemented-refused kind name a h = (
  λ e. let u = under_other (operation_named kind name) a NoImplement (λ d. absurd cc) e in
      IsNotImplemented.unsupported u.0 u.1
      ((kind-refused (parameter_faults u.0) (body_of u.0).reads (parameters-refused u.0) a h).0 u.2),
  λ n. not_implemented-read kind name a h n,
)

pub misspelled-refused : (kind : Kind) (name : List ℕ) (a : At) (place : ℕ) → a.origin ≤ a.place
    → (call_read kind name a ≡ Err (Marshal place)) ↔ IsMisspelled kind name a place
misspelled-refused kind name a place h = (
  λ e. let u = under_other (operation_named kind name) a (Marshal place) (λ d. absurd cc) e in
      record {
        operation = u.0;
        named = u.1;
        first = (place-refused (parameter_faults u.0) (body_of u.0).reads (parameters-refused u.0) a h place).0 u.2;
      },
  λ m. rw m.named ((place-refused (parameter_faults m.operation) (body_of m.operation).reads
      (parameters-refused m.operation) a h place).1
      m.first),
)

-- ---- what answers a call

pub answer-refused : (operation : Operation) (status : ℕ)
    → Refuses (answer_faults operation status) (answer_of operation status).format.reads
answer-refused operation status = (answer_of operation status).refuses

pub answer-not_implemented : (c : Call) (status : ℕ) (a : At) → a.origin ≤ a.place
    → (outcome_read c status a ≡ Err NoImplement) ↔ UnsupportedKind (answer_faults (operation_in c) status) a
answer-not_implemented c status a h =
    kind-refused (answer_faults (operation_in c) status) (answer_of (operation_in c) status).format.reads
    (answer-refused (operation_in c) status) a h

pub answer-misspelled : (c : Call) (status : ℕ) (a : At) (place : ℕ) → a.origin ≤ a.place
    → (outcome_read c status a ≡ Err (Marshal place)) ↔ Misspelling (answer_faults (operation_in c) status) a place
answer-misspelled c status a place h =
    place-refused (answer_faults (operation_in c) status) (answer_of (operation_in c) status).format.reads
    (answer-refused (operation_in c) status) a h place

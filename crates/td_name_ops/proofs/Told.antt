-- What a reading is to the caller.
use Rattle.std.proofs.Common.{◌≡◌, ℕ, ◌-◌, ◌≤◌, List, ◌++◌, length, Option, Some, None, Ok, Err, refl, ap, sym, ◌∙◌}
use Rattle.std.proofs.Common.{subst}
use Rattle.std.specs.Prelude.{◌↔◌}
use Rattle.td_cdr.specs.Place.{At}
use Rattle.td_cdr.specs.Reading.{after}
use Rattle.td_cdr.specs.Spelling.{FoundSpelling}
use Rattle.td_cdr.specs.Format.{Read}
use Rattle.td_cdr.specs.Lawful.{AreOctets}
use Rattle.td_cdr.specs.LawfulFormats.{read-admitted}
use Rattle.td_cdr.specs.declared.fault.CdrFault.TheVariants as cdr
use Rattle.td_cdr.specs.declared.order.Order.{Order}
use Rattle.td_cdr.specs.declared.value_fault.ValueFault.{ValueFault}
use Rattle.td_cdr.specs.declared.value_fault.ValueFault.TheVariants as value
use Rattle.td_ops.specs.Refusals.{reading_of, ReadsWritable}
use Rattle.td_ops.specs.declared.fault.OpsFault.TheVariants.{BadOperation}
use Rattle.td_name_ops.specs.Called.{operation_in}
use Rattle.td_name_ops.specs.Calls.{AdmitsCall, Body, body_of, call_read, read_under}
use Rattle.td_name_ops.specs.Operations.{operation_named, row}
use Rattle.td_name_ops.specs.declared.call.NameCall.{NameCall}
use Rattle.td_name_ops.specs.declared.operation.ContextOperation.TheVariants as context
use Rattle.td_name_ops.specs.declared.operation.IteratorOperation.TheVariants as iterator
use Rattle.td_name_ops.specs.declared.operation.NameKind.{NameKind}
use Rattle.td_name_ops.specs.declared.operation.NameOperation.{NameOperation}
use Rattle.td_name_ops.specs.declared.operation.NameOperation.TheVariants.{Context, Iterator, IsA, NonExistent}

-- ---- each operation's parameters make calls of that operation

row-tag : (o : NameOperation) → (row o).body.tag ≡ o
row-tag (Context context.Bind) = refl
row-tag (Context context.Rebind) = refl
row-tag (Context context.BindContext) = refl
row-tag (Context context.RebindContext) = refl
row-tag (Context context.Resolve) = refl
row-tag (Context context.Unbind) = refl
row-tag (Context context.NewContext) = refl
row-tag (Context context.BindNewContext) = refl
row-tag (Context context.Destroy) = refl
row-tag (Context context.List) = refl
row-tag (Iterator iterator.NextOne) = refl
row-tag (Iterator iterator.NextN) = refl
row-tag (Iterator iterator.Destroy) = refl
row-tag IsA = refl
row-tag NonExistent = refl

called : (o : NameOperation) (order : Order) (place : ℕ) (c : NameCall) (b : List ℕ)
    → (body_of o).spells order place c b → operation_in c ≡ o
called o order place c b s = sym ((row o).body.content order place c b s) ∙ row-tag o

-- ---- a call that was read

content_ok : {X : Type 0} (r : Read ValueFault X) (x : X × At) → reading_of r ≡ Ok x → r ≡ Ok x
content_ok (Ok y) x e = cc
content_ok (Err d) x e = absurd cc

under_ok : (o : Option NameOperation) (a : At) (x : NameCall × At) → read_under o a ≡ Ok x
    → (operation : NameOperation) × (o ≡ Some operation) × ((body_of operation).reads a ≡ Ok x)
under_ok (Some operation) a x e = (operation, refl, content_ok ((body_of operation).reads a) x e)
under_ok None a x e = absurd cc

pub call-found : (kind : NameKind) (name : List ℕ) (a : At) (c : NameCall) (next : At) → a.origin ≤ a.place
    → call_read kind name a ≡ Ok (c, next) → FoundSpelling (Body kind name) a c next
call-found kind name a c next h e =
    let u = under_ok (operation_named kind name) a (c, next) e in
    let f = (row u.0).body.lawful.found a c next h u.2 in
    record {
      bytes = f.bytes;
      spelled = record { operation = u.0; named = u.1; spelled = f.spelled };
      parts = f.parts;
      moved = f.moved;
    }

pub call-only : (kind : NameKind) (name : List ℕ) (a : At) (c : NameCall) (b rest : List ℕ) → a.origin ≤ a.place
    → Body kind name a.order (a.place - a.origin) c b → a.rest ≡ b ++ rest
    → call_read kind name a ≡ Ok (c, after (length b) a)
call-only kind name a c b rest h s e =
    rw s.named (ap reading_of ((row s.operation).body.lawful.only a c b rest h s.spelled e))

-- what was read under an operation is a call of it
read-called : (operation : NameOperation) (c : NameCall) (old new : At) → old.origin ≤ old.place
    → (body_of operation).reads old ≡ Ok (c, new) → operation_in c ≡ operation
read-called operation c old new h is =
    let f = (row operation).body.lawful.found old c new h is in
    called operation old.order (old.place - old.origin) c f.bytes f.spelled

-- and the answer
pub call-answered : (kind : NameKind) (name : List ℕ) (old new : At) (operation : NameOperation) (c : NameCall)
    → operation_named kind name ≡ Some operation → old.origin ≤ old.place → AreOctets old.rest
    → (body_of operation).reads old ≡ Ok (c, new) → ReadsWritable AdmitsCall (call_read kind name old) old new (Ok c)
call-answered kind name old new operation c named h octets is = record {
  gives = rw named (ap reading_of is);
  unchanged = tt;
  admitted =
      subst (λ (o : NameOperation). (body_of o).admits c) (sym (read-called operation c old new h is))
      (read-admitted (body_of operation) (row operation).body.lawful old c new h octets is);
}

never_unknown : {X : Type 0} (r : Read ValueFault X) → reading_of r ≡ Err BadOperation → ⊥
never_unknown (Ok x) e = absurd cc
never_unknown (Err (value.Cdr (cdr.Short place))) e = absurd cc
never_unknown (Err (value.Cdr (cdr.BadBoolean place))) e = absurd cc
never_unknown (Err (value.Cdr (cdr.BadString place))) e = absurd cc
never_unknown (Err (value.Cdr (cdr.TooLong place))) e = absurd cc
never_unknown (Err (value.Cdr cdr.Memory)) e = absurd cc
never_unknown (Err (value.BadKind place)) e = absurd cc
never_unknown (Err (value.BadValue place)) e = absurd cc
never_unknown (Err (value.Unsupported kind)) e = absurd cc
never_unknown (Err (value.Depth place)) e = absurd cc
never_unknown (Err (value.Indirection place)) e = absurd cc
never_unknown (Err value.Memory) e = absurd cc

under_unknown : (o : Option NameOperation) (a : At) → (read_under o a ≡ Err BadOperation) ↔ (o ≡ None)
under_unknown (Some operation) a = (λ e. absurd (never_unknown ((body_of operation).reads a) e), λ e. absurd cc)
under_unknown None a = (λ e. refl, λ e. refl)

pub call-unknown : (kind : NameKind) (name : List ℕ) (a : At)
    → (call_read kind name a ≡ Err BadOperation) ↔ (operation_named kind name ≡ None)
call-unknown kind name a = under_unknown (operation_named kind name) a

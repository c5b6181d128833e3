-- The operations of each object, a row each: its name in a request, and its parameters in the order of their
-- declaration (OMG's Naming Service, interfaces CosNaming::NamingContext and CosNaming::BindingIterator; CORBA, chapter
-- "ORB Interface", Object Interface Operations).
use Rattle.std.specs.Prelude.{ℕ, Option, List, [], ◌∷◌, codes, Some, None, refl}
use Rattle.td_cdr.specs.Format.{value_named}
use Rattle.td_cdr.specs.Place.{At}
use Rattle.td_cdr.specs.Sound.{◌&◌, arm, bare_arm, failure, text, ulong}
use Rattle.td_cdr.specs.declared.value_fault.ValueFault.{ValueFault}
use Rattle.td_cdr.specs.declared.value_fault.ValueFault.TheVariants.{Unsupported}
use Rattle.td_typecode.specs.References.{reference}
use Rattle.td_names.specs.Spelling.{name}
use Rattle.td_names.specs.declared.act.NameAct.TheVariants as act
use Rattle.td_ops.specs.Operations.{first_name}
use Rattle.td_name_ops.specs.Called.{Row, act_arm, iterator_arm}
use Rattle.td_name_ops.specs.declared.call.IteratorCall.TheVariants as iter
use Rattle.td_name_ops.specs.declared.call.NameCall.TheVariants as call
use Rattle.td_name_ops.specs.declared.operation.ContextOperation.{ContextOperation}
use Rattle.td_name_ops.specs.declared.operation.ContextOperation.TheVariants as context
use Rattle.td_name_ops.specs.declared.operation.IteratorOperation.{IteratorOperation}
use Rattle.td_name_ops.specs.declared.operation.IteratorOperation.TheVariants as iterator
use Rattle.td_name_ops.specs.declared.operation.NameKind.{NameKind}
use Rattle.td_name_ops.specs.declared.operation.NameKind.TheVariants as kind
use Rattle.td_name_ops.specs.declared.operation.NameOperation.{NameOperation}
use Rattle.td_name_ops.specs.declared.operation.NameOperation.TheVariants.{Context, Iterator, IsA, NonExistent}

-- an operation that isn't implemented, whatever its body: what can be read of it stands for NO_IMPLEMENT
abbrev pub not_implemented : At → ValueFault
not_implemented _ = Unsupported 14

abbrev pub context_row : ContextOperation → Row
context_row context.Bind = record {
  name = codes "bind";
  body =
      act_arm context.Bind (λ p. act.Bind p.0 p.1) (elim [ act.Bind n o ↦ Some (n, o) | _ ↦ None ])
      (λ _. refl) (λ _. refl) (name & reference);
}
context_row context.Rebind = record {
  name = codes "rebind";
  body =
      act_arm context.Rebind (λ p. act.Rebind p.0 p.1)
      (elim [ act.Rebind n o ↦ Some (n, o) | _ ↦ None ]) (λ _. refl) (λ _. refl) (name & reference);
}
context_row context.BindContext = record {
  name = codes "bind_context";
  body =
      act_arm context.BindContext (λ p. act.BindContext p.0 p.1)
      (elim [ act.BindContext n o ↦ Some (n, o) | _ ↦ None ]) (λ _. refl) (λ _. refl)
      (name & reference);
}
context_row context.RebindContext = record {
  name = codes "rebind_context";
  body =
      arm (Context context.RebindContext) (λ x. absurd x) (λ _. None) (λ x. absurd x)
      (λ x. absurd x) (failure not_implemented);
}
context_row context.Resolve = record {
  name = codes "resolve";
  body =
      act_arm context.Resolve (λ n. act.Resolve n) (elim [ act.Resolve n ↦ Some n | _ ↦ None ])
      (λ _. refl) (λ _. refl) name;
}
context_row context.Unbind = record {
  name = codes "unbind";
  body =
      act_arm context.Unbind (λ n. act.Unbind n) (elim [ act.Unbind n ↦ Some n | _ ↦ None ])
      (λ _. refl) (λ _. refl) name;
}
context_row context.NewContext = record {
  name = codes "new_context";
  body = bare_arm (call.Act act.NewContext);
}
context_row context.BindNewContext = record {
  name = codes "bind_new_context";
  body =
      act_arm context.BindNewContext (λ n. act.BindNewContext n)
      (elim [ act.BindNewContext n ↦ Some n | _ ↦ None ]) (λ _. refl) (λ _. refl) name;
}
context_row context.Destroy = record {
  name = codes "destroy";
  body = bare_arm (call.Act act.Destroy);
}
context_row context.List = record {
  name = codes "list";
  body =
      arm (Context context.List) (λ n. call.List n) (elim [ call.List n ↦ Some n | _ ↦ None ])
      (λ _. refl) (λ _. refl) ulong;
}

abbrev pub iterator_row : IteratorOperation → Row
iterator_row iterator.NextOne = record {
  name = codes "next_one";
  body = bare_arm (call.Iterator iter.NextOne);
}
iterator_row iterator.NextN = record {
  name = codes "next_n";
  body =
      iterator_arm iterator.NextN (λ n. iter.NextN n) (elim [ iter.NextN n ↦ Some n | _ ↦ None ])
      (λ _. refl) (λ _. refl) ulong;
}
iterator_row iterator.Destroy = record {
  name = codes "destroy";
  body = bare_arm (call.Iterator iter.Destroy);
}

abbrev pub row : NameOperation → Row
row (Context o) = context_row o
row (Iterator o) = iterator_row o
row IsA = record {
  name = codes "_is_a";
  body = arm IsA (λ id. call.IsA id) (elim [ call.IsA id ↦ Some id | _ ↦ None ]) (λ _. refl)
      (λ _. refl) text;
}
row NonExistent = record { name = codes "_non_existent"; body = bare_arm call.NonExistent }

-- the name that a client writes
abbrev pub name_of : NameOperation → List ℕ
name_of o = (row o).name

-- ---- the operations of each object

abbrev pub operations : NameKind → List NameOperation
operations kind.Context =
    Context context.Bind ∷ Context context.Rebind ∷ Context context.BindContext
    ∷ Context context.RebindContext
    ∷ Context context.Resolve ∷ Context context.Unbind ∷ Context context.NewContext
    ∷ Context context.BindNewContext
    ∷ Context context.Destroy ∷ Context context.List ∷ IsA ∷ NonExistent ∷ []
operations kind.Iterator =
    Iterator iterator.NextOne ∷ Iterator iterator.NextN ∷ Iterator iterator.Destroy ∷ IsA
    ∷ NonExistent ∷ []

-- the operation of an object that has this name; `_not_existent` is a second name of `_non_existent`
abbrev pub operation_named : NameKind → List ℕ → Option NameOperation
operation_named k called = value_named name_of (operations k) (first_name called)

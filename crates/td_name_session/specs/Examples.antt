-- Worked examples: which objects keys name, what Requests of a context come to that no other session changes, and an
-- iterator of two bindings.
use Rattle.std.specs.Prelude.{◌≡◌, true, false, List, [], ◌∷◌, codes, None, Some}
use Rattle.td_cdr.specs.Writing.{Draft}
use Rattle.td_iter.specs.Desks.{item_of}
use Rattle.td_name_ops.specs.declared.call.IteratorCall.TheVariants as iter
use Rattle.td_name_ops.specs.declared.call.NameCall.TheVariants as call
use Rattle.td_name_ops.specs.declared.outcome.NameOutcome.TheVariants as outcome
use Rattle.td_name_ops.specs.declared.outcome.NameResult.TheVariants as result
use Rattle.td_names.specs.Examples.{a, home, p1, x}
use Rattle.td_names.specs.References.{reference_of}
use Rattle.td_names.specs.declared.act.NameAct.TheVariants as act
use Rattle.td_names.specs.declared.act.NameException.TheVariants as fault
use Rattle.td_names.specs.declared.component.NameBinding.{NameBinding}
use Rattle.td_naming.specs.Alone.{no_changes}
use Rattle.td_naming.specs.Examples.{bare, bound, make, made}
use Rattle.td_ops.specs.declared.outcome.SystemKind.TheVariants.{BadOperation, ObjectNotExist}
use Rattle.td_name_session.specs.Keys.{desk_label, iterator_reference, key_of}
use Rattle.td_name_session.specs.Outcomes.{refusal_outcome, system}
use Rattle.td_name_session.specs.Requests.{OutcomeOfRequest, IteratorDone, kept_for}
use Rattle.td_name_session.specs.Scenes.{IteratorList, Scene, scene}
use Rattle.td_name_session.specs.declared.judging.Judged.TheVariants.{Call, Refused}
use Rattle.td_name_session.specs.declared.keys.NameKey.TheVariants.{Context, Iterator}

-- ---- keys

pub record WorkedKeys : Type 0 where
  pub context : key_of (codes "N/12") ≡ Some (Context 12)
  pub iterator : key_of (codes "N/I/3") ≡ Some (Iterator 3)
  pub zeros : key_of (codes "N/I/03") ≡ None
  pub zero : key_of (codes "N/I/0") ≡ None
  pub none : key_of (codes "N/I/") ≡ None
  pub other : key_of (codes "n/1") ≡ None
  pub id : (iterator_reference home 3).id ≡ codes "IDL:omg.org/CosNaming/BindingIterator:1.0"

-- ---- iterators

abbrev pub first : NameBinding
first = record { name = a; context = true }

abbrev pub second : NameBinding
second = record { name = x; context = false }

-- two bindings are kept in the iterator 1, of which one is given; then none are left
abbrev pub two_kept : IteratorList
two_kept = kept_for (first ∷ second ∷ []) ([], 1)

abbrev pub left : List NameBinding → IteratorList
left bindings = (record { trader = desk_label; number = 1; item = bindings } ∷ [], 2)

pub record WorkedIterator (draft : Draft) : Type 0 where
  pub keeps : two_kept ≡ left (first ∷ second ∷ [])
  -- where nothing is left no iterator is made
  pub keeps_none : kept_for [] ([], 1) ≡ ([], 1)
  pub gives : IteratorDone 1 (item_of desk_label 1 two_kept) iter.NextOne draft two_kept
      (outcome.Done (result.NextOne (Some first))) (left (second ∷ []))
  -- an iterator at its end stays
  pub ends : IteratorDone 1 (item_of desk_label 1 (left [])) iter.NextOne draft (left [])
      (outcome.Done (result.NextOne None)) (left [])
  pub destroys : IteratorDone 1 (item_of desk_label 1 two_kept) iter.Destroy draft two_kept
      (outcome.Done result.Nothing) ([], 2)
  pub unknown : IteratorDone 2 (item_of desk_label 2 two_kept) iter.Destroy draft two_kept
      (system ObjectNotExist) two_kept

-- ---- Requests

abbrev pub at_first : Scene
at_first = scene bare ([], 1)

abbrev pub with_context : Scene
with_context = scene made ([], 1)

abbrev pub with_binding : Scene
with_binding = scene bound ([], 1)

pub record WorkedRequests (draft : Draft) : Type 0 where
  -- an accepted change: the context 2 is made
  pub makes : OutcomeOfRequest no_changes (Call (Context 1) (call.Act make)) draft at_first
      (outcome.Done (result.Object (reference_of home 2))) true with_context
  pub resolves : OutcomeOfRequest no_changes
      (Call (Context 1) (call.Act (act.Resolve (a ∷ x ∷ [])))) draft
      with_binding (outcome.Done (result.Object p1)) false with_binding
  -- a refused change
  pub already : OutcomeOfRequest no_changes (Call (Context 1) (call.Act make)) draft with_context
      (outcome.User fault.AlreadyBound) false with_context
  pub is_a : OutcomeOfRequest no_changes
      (Call (Context 1) (call.IsA (codes "IDL:omg.org/CORBA/Object:1.0")))
      draft at_first (outcome.Done (result.Truth true)) false at_first
  pub is_no_iterator : OutcomeOfRequest no_changes
      (Call (Context 1) (call.IsA (codes "IDL:omg.org/CosNaming/BindingIterator:1.0"))) draft
      at_first (outcome.Done (result.Truth false)) false at_first
  pub refuses : OutcomeOfRequest no_changes (Refused BadOperation 0) draft at_first
      (refusal_outcome BadOperation 0) false
      at_first

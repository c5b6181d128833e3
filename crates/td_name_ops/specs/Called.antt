-- The operation of a call, and what an operation is: a name in a request, and the calls that its parameters make
-- (CORBA, chapter on General Inter-ORB Protocol, "Request Header" and "Request Body").
use Rattle.std.specs.Prelude.{◌≡◌, ℕ, List, Option, Some, None}
use Rattle.td_cdr.specs.Sound.{Sound, FormatArm, arm}
use Rattle.td_cdr.specs.declared.value_fault.ValueFault.{ValueFault}
use Rattle.td_names.specs.declared.act.NameAct.{NameAct}
use Rattle.td_names.specs.declared.act.NameAct.TheVariants as act
use Rattle.td_name_ops.specs.declared.call.IteratorCall.{IteratorCall}
use Rattle.td_name_ops.specs.declared.call.IteratorCall.TheVariants as iter
use Rattle.td_name_ops.specs.declared.call.NameCall.{NameCall}
use Rattle.td_name_ops.specs.declared.call.NameCall.TheVariants as call
use Rattle.td_name_ops.specs.declared.operation.ContextOperation.{ContextOperation}
use Rattle.td_name_ops.specs.declared.operation.ContextOperation.TheVariants as context
use Rattle.td_name_ops.specs.declared.operation.IteratorOperation.{IteratorOperation}
use Rattle.td_name_ops.specs.declared.operation.IteratorOperation.TheVariants as iterator
use Rattle.td_name_ops.specs.declared.operation.NameOperation.{NameOperation}
use Rattle.td_name_ops.specs.declared.operation.NameOperation.TheVariants.{Context, Iterator, IsA, NonExistent}

-- ---- the operation of each call

abbrev pub act_operation : NameAct → ContextOperation
act_operation (act.Bind _ _) = context.Bind
act_operation (act.BindContext _ _) = context.BindContext
act_operation (act.Rebind _ _) = context.Rebind
act_operation (act.Resolve _) = context.Resolve
act_operation (act.Unbind _) = context.Unbind
act_operation act.NewContext = context.NewContext
act_operation (act.BindNewContext _) = context.BindNewContext
act_operation act.Destroy = context.Destroy
act_operation act.List = context.List

abbrev pub iterator_operation : IteratorCall → IteratorOperation
iterator_operation iter.NextOne = iterator.NextOne
iterator_operation (iter.NextN _) = iterator.NextN
iterator_operation iter.Destroy = iterator.Destroy

abbrev pub operation_in : NameCall → NameOperation
operation_in (call.Act a) = Context (act_operation a)
operation_in (call.List _) = Context context.List
operation_in (call.Iterator i) = Iterator (iterator_operation i)
operation_in (call.IsA _) = IsA
operation_in call.NonExistent = NonExistent

-- ---- an operation: its name in a request, and the calls that its parameters make

pub record Row : Type 1 where
  pub name : List ℕ
  pub body : FormatArm ValueFault NameOperation NameCall operation_in

-- ---- the parameters of the calls of a class

abbrev pub of_act : {X : Type 0} → (NameAct → Option X) → NameCall → Option X
of_act from (call.Act a) = from a
of_act from _ = None

abbrev pub act_arm : {X : Type 0} (o : ContextOperation) (to : X → NameAct)
    (from : NameAct → Option X)
    → ((x : X) → from (to x) ≡ Some x) → ((x : X) → Context o ≡ operation_in (call.Act (to x)))
    → Sound ValueFault X → FormatArm ValueFault NameOperation NameCall operation_in
act_arm o to from back content g = arm (Context o) (λ x. call.Act (to x)) (of_act from) back content
    g

abbrev pub of_iterator : {X : Type 0} → (IteratorCall → Option X) → NameCall → Option X
of_iterator from (call.Iterator i) = from i
of_iterator from _ = None

abbrev pub iterator_arm : {X : Type 0} (o : IteratorOperation) (to : X → IteratorCall)
    (from : IteratorCall → Option X)
    → ((x : X) → from (to x) ≡ Some x)
    → ((x : X) → Iterator o ≡ operation_in (call.Iterator (to x))) → Sound ValueFault X
    → FormatArm ValueFault NameOperation NameCall operation_in
iterator_arm o to from back content g = arm (Iterator o) (λ x. call.Iterator (to x))
    (of_iterator from) back content g

-- The operation of a call, and what an operation is: a name in a request, parameters, and the shape of its result
-- (CORBA, chapter on General Inter-ORB Protocol, "Request Header", "Request Body" and "Reply Body").
use Rattle.std.specs.Prelude.{◌≡◌, ℕ, List, Option, Some, None}
use Rattle.td_cdr.specs.Sound.{Sound, FormatArm, arm}
use Rattle.td_cdr.specs.declared.value_fault.ValueFault.{ValueFault}
use Rattle.td_ops.specs.declared.call.Call.{Call}
use Rattle.td_ops.specs.declared.call.Call.TheVariants as call
use Rattle.td_ops.specs.declared.call.Change.{Change}
use Rattle.td_ops.specs.declared.call.Change.TheVariants as change
use Rattle.td_ops.specs.declared.call.Look.{Look}
use Rattle.td_ops.specs.declared.call.Look.TheVariants as look
use Rattle.td_ops.specs.declared.call.IterCall.{IterCall}
use Rattle.td_ops.specs.declared.call.IterCall.TheVariants as iter
use Rattle.td_ops.specs.declared.operation.Operation.{Operation}
use Rattle.td_ops.specs.declared.operation.Operation.TheVariants.{Query, Register, Link, Proxy, Admin, Iterator, Types}
use Rattle.td_ops.specs.declared.operation.Operation.TheVariants.{Get, SetTruth, SetNumber, SetFollow, SetRequestIdStem}
use Rattle.td_ops.specs.declared.operation.Operation.TheVariants.{IsA, NonExistent}
use Rattle.td_ops.specs.declared.operation.RegisterOperation.TheVariants as register
use Rattle.td_ops.specs.declared.operation.LinkOperation.TheVariants as link
use Rattle.td_ops.specs.declared.operation.ProxyOperation.TheVariants as proxy
use Rattle.td_ops.specs.declared.operation.AdminOperation.TheVariants as admin
use Rattle.td_ops.specs.declared.operation.IteratorOperation.TheVariants as iterator
use Rattle.td_ops.specs.declared.operation.TypesOperation.TheVariants as types
use Rattle.td_ops.specs.declared.shape.Shape.{Shape}

-- ---- the operation of each call

abbrev pub change_operation : Change → Operation
change_operation (change.Export _ _ _) = Register register.Export
change_operation (change.Withdraw _) = Register register.Withdraw
change_operation (change.Modify _ _ _) = Register register.Modify
change_operation (change.WithdrawUsingConstraint _ _) = Register register.WithdrawUsingConstraint
change_operation (change.AddLink _ _ _ _ _) = Link link.AddLink
change_operation (change.RemoveLink _) = Link link.RemoveLink
change_operation (change.ModifyLink _ _ _) = Link link.ModifyLink
change_operation (change.ExportProxy _ _ _ _ _ _) = Proxy proxy.ExportProxy
change_operation (change.WithdrawProxy _) = Proxy proxy.WithdrawProxy
change_operation (change.AddType _ _ _ _) = Types types.AddType
change_operation (change.RemoveType _) = Types types.RemoveType
change_operation (change.MaskType _) = Types types.MaskType
change_operation (change.UnmaskType _) = Types types.UnmaskType
change_operation (change.SetTruth attribute _) = SetTruth attribute
change_operation (change.SetNumber attribute _) = SetNumber attribute
change_operation (change.SetFollow attribute _) = SetFollow attribute
change_operation (change.SetRequestIdStem _) = SetRequestIdStem

abbrev pub look_operation : Look → Operation
look_operation (look.Describe _) = Register register.Describe
look_operation (look.DescribeLink _) = Link link.DescribeLink
look_operation look.ListLinks = Link link.ListLinks
look_operation (look.DescribeProxy _) = Proxy proxy.DescribeProxy
look_operation (look.ListOffers _) = Admin admin.ListOffers
look_operation (look.ListProxies _) = Admin admin.ListProxies
look_operation (look.ListTypes _) = Types types.ListTypes
look_operation (look.DescribeType _) = Types types.DescribeType
look_operation (look.FullyDescribeType _) = Types types.FullyDescribeType
look_operation (look.Get attribute) = Get attribute

abbrev pub iterator_operation : IterCall → Operation
iterator_operation iter.MaxLeft = Iterator iterator.MaxLeft
iterator_operation (iter.NextN _) = Iterator iterator.NextN
iterator_operation iter.Destroy = Iterator iterator.Destroy

abbrev pub operation_in : Call → Operation
operation_in (call.Change c) = change_operation c
operation_in (call.Look l) = look_operation l
operation_in (call.Query _) = Query
operation_in (call.AddLink _) = Link link.AddLink
operation_in (call.Resolve _) = Register register.Resolve
operation_in (call.Iter i) = iterator_operation i
operation_in (call.IsA _) = IsA
operation_in call.NonExistent = NonExistent

-- ---- an operation: its name in a request, the calls that its parameters make, the shape of its result

pub record Row : Type 1 where
  pub name : List ℕ
  pub body : FormatArm ValueFault Operation Call operation_in
  pub result : Shape

-- ---- the parameters of the calls of a class

abbrev pub of_change : {X : Type 0} → (Change → Option X) → Call → Option X
of_change from (call.Change c) = from c
of_change from _ = None

abbrev pub change_arm : {X : Type 0} (o : Operation) (to : X → Change) (from : Change → Option X)
    → ((x : X) → from (to x) ≡ Some x) → ((x : X) → o ≡ change_operation (to x))
    → Sound ValueFault X → FormatArm ValueFault Operation Call operation_in
change_arm o to from back content g = arm o (λ x. call.Change (to x)) (of_change from) back content
    g

abbrev pub of_look : {X : Type 0} → (Look → Option X) → Call → Option X
of_look from (call.Look l) = from l
of_look from _ = None

abbrev pub look_arm : {X : Type 0} (o : Operation) (to : X → Look) (from : Look → Option X)
    → ((x : X) → from (to x) ≡ Some x) → ((x : X) → o ≡ look_operation (to x)) → Sound ValueFault X
    → FormatArm ValueFault Operation Call operation_in
look_arm o to from back content g = arm o (λ x. call.Look (to x)) (of_look from) back content g

abbrev pub of_iterator : {X : Type 0} → (IterCall → Option X) → Call → Option X
of_iterator from (call.Iter i) = from i
of_iterator from _ = None

abbrev pub iterator_arm : {X : Type 0} (o : Operation) (to : X → IterCall)
    (from : IterCall → Option X)
    → ((x : X) → from (to x) ≡ Some x) → ((x : X) → o ≡ iterator_operation (to x))
    → Sound ValueFault X → FormatArm ValueFault Operation Call operation_in
iterator_arm o to from back content g = arm o (λ x. call.Iter (to x)) (of_iterator from) back
    content g

-- The operations of the interface Register (OMG's Trading Object Service), a row each: name, parameters
-- in the order of their declaration, and the shape of the result.
use Rattle.std.specs.Prelude.{List, [], ◌∷◌, codes, Some, None, refl}
use Rattle.td_cdr.specs.Sound.{◌&◌, arm, text, sequence}
use Rattle.td_typecode.specs.References.{reference}
use Rattle.td_value.specs.Structures.{property}
use Rattle.td_ops.specs.declared.call.Call.TheVariants as call
use Rattle.td_ops.specs.declared.call.Change.TheVariants as change
use Rattle.td_ops.specs.declared.call.Look.TheVariants as look
use Rattle.td_ops.specs.declared.operation.Operation.{Operation}
use Rattle.td_ops.specs.declared.operation.Operation.TheVariants.{Register}
use Rattle.td_ops.specs.declared.operation.RegisterOperation.{RegisterOperation}
use Rattle.td_ops.specs.declared.operation.RegisterOperation.TheVariants as register
use Rattle.td_ops.specs.declared.shape.Shape.TheVariants as shape
use Rattle.td_ops.specs.Called.{Row, change_arm, look_arm}

abbrev pub register_row : RegisterOperation → Row
register_row register.Export = record {
  name = codes "export";
  body =
      change_arm (Register register.Export) (λ p. change.Export p.0 p.1.0 p.1.1)
      (elim [ change.Export x y z ↦ Some (x, (y, z)) | _ ↦ None ]) (λ _. refl) (λ _. refl)
      (reference & text & sequence property);
  result = shape.Id;
}
register_row register.Withdraw = record {
  name = codes "withdraw";
  body =
      change_arm (Register register.Withdraw) (λ p. change.Withdraw p)
      (elim [ change.Withdraw x ↦ Some x | _ ↦ None ]) (λ _. refl) (λ _. refl) (text);
  result = shape.Nothing;
}
register_row register.Describe = record {
  name = codes "describe";
  body =
      look_arm (Register register.Describe) (λ p. look.Describe p)
      (elim [ look.Describe x ↦ Some x | _ ↦ None ]) (λ _. refl) (λ _. refl) (text);
  result = shape.Offer;
}
register_row register.Modify = record {
  name = codes "modify";
  body =
      change_arm (Register register.Modify) (λ p. change.Modify p.0 p.1.0 p.1.1)
      (elim [ change.Modify x y z ↦ Some (x, (y, z)) | _ ↦ None ]) (λ _. refl) (λ _. refl)
      (text & sequence text & sequence property);
  result = shape.Nothing;
}
register_row register.WithdrawUsingConstraint = record {
  name = codes "withdraw_using_constraint";
  body =
      change_arm (Register register.WithdrawUsingConstraint)
      (λ p. change.WithdrawUsingConstraint p.0 p.1)
      (elim [ change.WithdrawUsingConstraint x y ↦ Some (x, y) | _ ↦ None ]) (λ _. refl) (λ _. refl)
      (text & text);
  result = shape.Nothing;
}
register_row register.Resolve = record {
  name = codes "resolve";
  body =
      arm (Register register.Resolve) (λ p. call.Resolve p)
      (elim [ call.Resolve x ↦ Some x | _ ↦ None ]) (λ _. refl) (λ _. refl) (sequence text);
  result = shape.Reference;
}

abbrev pub register_operations : List Operation
register_operations =
    Register register.Export ∷ Register register.Withdraw ∷ Register register.Describe
    ∷ Register register.Modify
    ∷ Register register.WithdrawUsingConstraint ∷ Register register.Resolve ∷ []

-- The operations of the interface ServiceTypeRepository (module CosTradingRepos) (OMG's Trading Object Service), a row
-- each: name, parameters in the order of their declaration, and the shape of the result.
use Rattle.std.specs.Prelude.{List, [], ◌∷◌, codes, Some, None, refl}
use Rattle.td_cdr.specs.Sound.{◌&◌, text, sequence}
use Rattle.td_value.specs.Structures.{prop_struct}
use Rattle.td_value.specs.Unions.{specified_types}
use Rattle.td_ops.specs.declared.call.Change.TheVariants as change
use Rattle.td_ops.specs.declared.call.Look.TheVariants as look
use Rattle.td_ops.specs.declared.operation.Operation.{Operation}
use Rattle.td_ops.specs.declared.operation.Operation.TheVariants.{Types}
use Rattle.td_ops.specs.declared.operation.TypesOperation.{TypesOperation}
use Rattle.td_ops.specs.declared.operation.TypesOperation.TheVariants as types
use Rattle.td_ops.specs.declared.shape.Shape.TheVariants as shape
use Rattle.td_ops.specs.Called.{Row, change_arm, look_arm}

abbrev pub types_row : TypesOperation → Row
types_row types.AddType = record {
  name = codes "add_type";
  body =
      change_arm (Types types.AddType) (λ p. change.AddType p.0 p.1.0 p.1.1.0 p.1.1.1)
      (elim [ change.AddType x y z u ↦ Some (x, (y, (z, u))) | _ ↦ None ]) (λ _. refl) (λ _. refl)
      (text & text & sequence prop_struct & sequence text);
  result = shape.Incarnation;
}
types_row types.RemoveType = record {
  name = codes "remove_type";
  body =
      change_arm (Types types.RemoveType) (λ p. change.RemoveType p)
      (elim [ change.RemoveType x ↦ Some x | _ ↦ None ]) (λ _. refl) (λ _. refl) (text);
  result = shape.Nothing;
}
types_row types.ListTypes = record {
  name = codes "list_types";
  body =
      look_arm (Types types.ListTypes) (λ p. look.ListTypes p)
      (elim [ look.ListTypes x ↦ Some x | _ ↦ None ]) (λ _. refl) (λ _. refl) (specified_types);
  result = shape.Names;
}
types_row types.DescribeType = record {
  name = codes "describe_type";
  body =
      look_arm (Types types.DescribeType) (λ p. look.DescribeType p)
      (elim [ look.DescribeType x ↦ Some x | _ ↦ None ]) (λ _. refl) (λ _. refl) (text);
  result = shape.Typed;
}
types_row types.FullyDescribeType = record {
  name = codes "fully_describe_type";
  body =
      look_arm (Types types.FullyDescribeType) (λ p. look.FullyDescribeType p)
      (elim [ look.FullyDescribeType x ↦ Some x | _ ↦ None ]) (λ _. refl) (λ _. refl) (text);
  result = shape.Typed;
}
types_row types.MaskType = record {
  name = codes "mask_type";
  body =
      change_arm (Types types.MaskType) (λ p. change.MaskType p)
      (elim [ change.MaskType x ↦ Some x | _ ↦ None ]) (λ _. refl) (λ _. refl) (text);
  result = shape.Nothing;
}
types_row types.UnmaskType = record {
  name = codes "unmask_type";
  body =
      change_arm (Types types.UnmaskType) (λ p. change.UnmaskType p)
      (elim [ change.UnmaskType x ↦ Some x | _ ↦ None ]) (λ _. refl) (λ _. refl) (text);
  result = shape.Nothing;
}

abbrev pub types_operations : List Operation
types_operations =
    Types types.AddType ∷ Types types.RemoveType ∷ Types types.ListTypes ∷ Types types.DescribeType
    ∷ Types types.FullyDescribeType ∷ Types types.MaskType ∷ Types types.UnmaskType ∷ []

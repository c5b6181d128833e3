-- The operations of the interface Link (OMG's Trading Object Service), a row each: name, parameters
-- in the order of their declaration, and the shape of the result.
use Rattle.std.specs.Prelude.{List, [], ◌∷◌, codes, Some, None, refl}
use Rattle.td_cdr.specs.Sound.{◌&◌, arm, bare_arm, text}
use Rattle.td_value.specs.Enumerations.{follow_option}
use Rattle.td_ops.specs.Parameters.{add_link}
use Rattle.td_ops.specs.declared.call.Call.TheVariants as call
use Rattle.td_ops.specs.declared.call.Change.TheVariants as change
use Rattle.td_ops.specs.declared.call.Look.TheVariants as look
use Rattle.td_ops.specs.declared.operation.Operation.{Operation}
use Rattle.td_ops.specs.declared.operation.Operation.TheVariants.{Link}
use Rattle.td_ops.specs.declared.operation.LinkOperation.{LinkOperation}
use Rattle.td_ops.specs.declared.operation.LinkOperation.TheVariants as link
use Rattle.td_ops.specs.declared.shape.Shape.TheVariants as shape
use Rattle.td_ops.specs.Called.{Row, change_arm, look_arm}

abbrev pub link_row : LinkOperation → Row
link_row link.AddLink = record {
  name = codes "add_link";
  body =
      arm (Link link.AddLink) (λ p. call.AddLink p) (elim [ call.AddLink x ↦ Some x | _ ↦ None ])
      (λ _. refl) (λ _. refl) (add_link);
  result = shape.Nothing;
}
link_row link.RemoveLink = record {
  name = codes "remove_link";
  body =
      change_arm (Link link.RemoveLink) (λ p. change.RemoveLink p)
      (elim [ change.RemoveLink x ↦ Some x | _ ↦ None ]) (λ _. refl) (λ _. refl) (text);
  result = shape.Nothing;
}
link_row link.DescribeLink = record {
  name = codes "describe_link";
  body =
      look_arm (Link link.DescribeLink) (λ p. look.DescribeLink p)
      (elim [ look.DescribeLink x ↦ Some x | _ ↦ None ]) (λ _. refl) (λ _. refl) (text);
  result = shape.Link;
}
link_row link.ListLinks = record {
  name = codes "list_links";
  body = bare_arm (call.Look look.ListLinks);
  result = shape.Names;
}
link_row link.ModifyLink = record {
  name = codes "modify_link";
  body =
      change_arm (Link link.ModifyLink) (λ p. change.ModifyLink p.0 p.1.0 p.1.1)
      (elim [ change.ModifyLink x y z ↦ Some (x, (y, z)) | _ ↦ None ]) (λ _. refl) (λ _. refl)
      (text & follow_option & follow_option);
  result = shape.Nothing;
}

abbrev pub link_operations : List Operation
link_operations =
    Link link.AddLink ∷ Link link.RemoveLink ∷ Link link.DescribeLink ∷ Link link.ListLinks
    ∷ Link link.ModifyLink ∷ []

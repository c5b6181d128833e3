-- The operations of each object, and their names in a request (OMG's Trading Object Service; CORBA, chapter "ORB
-- Interface", Object Interface Operations, whose names in a request stand in the chapter on General Inter-ORB
-- Protocol, "Request Header").
use Rattle.std.specs.Prelude.{ℕ, if◌then◌else◌, Option, List, [], ◌∷◌, ◌++◌, map, codes, Some, None, refl}
use Rattle.std.specs.Str.{bytes_eq}
use Rattle.td_cdr.specs.Format.{value_named}
use Rattle.td_cdr.specs.Sound.{arm, bare_arm, boolean, octets, text, ulong}
use Rattle.td_value.specs.declared.key.Kind.{Kind}
use Rattle.td_value.specs.declared.key.Kind.TheVariants as kind
use Rattle.td_value.specs.Enumerations.{follow_option}
use Rattle.td_ops.specs.declared.attribute.Attribute.{Attribute}
use Rattle.td_ops.specs.declared.attribute.Attribute.TheVariants.{Reference, Truth, Number, Follow, RequestIdStem}
use Rattle.td_ops.specs.declared.attribute.Attribute.TheVariants.{Incarnation}
use Rattle.td_ops.specs.declared.call.Call.TheVariants as call
use Rattle.td_ops.specs.declared.call.Change.TheVariants as change
use Rattle.td_ops.specs.declared.call.Look.TheVariants as look
use Rattle.td_ops.specs.declared.operation.Operation.{Operation}
use Rattle.td_ops.specs.declared.operation.Operation.TheVariants.{Query, Register, Link, Proxy, Admin, Iterator, Types}
use Rattle.td_ops.specs.declared.operation.Operation.TheVariants.{Get, SetTruth, SetNumber, SetFollow, SetRequestIdStem}
use Rattle.td_ops.specs.declared.operation.Operation.TheVariants.{IsA, NonExistent}
use Rattle.td_ops.specs.declared.shape.Shape.{Shape}
use Rattle.td_ops.specs.declared.shape.Shape.TheVariants as shape
use Rattle.td_ops.specs.Attributes.{attribute_name, truth_name, number_name, follow_name, trader_components}
use Rattle.td_ops.specs.Attributes.{support_attributes, import_attributes, link_attributes, truths_set, numbers_set}
use Rattle.td_ops.specs.Attributes.{follows_set}
use Rattle.td_ops.specs.Parameters.{query}
use Rattle.td_ops.specs.Called.{Row, change_arm}
use Rattle.td_ops.specs.Registers.{register_row, register_operations}
use Rattle.td_ops.specs.Links.{link_row, link_operations}
use Rattle.td_ops.specs.Proxies.{proxy_row, proxy_operations}
use Rattle.td_ops.specs.Administration.{admin_row, admin_operations}
use Rattle.td_ops.specs.Iterators.{iterator_row, iterator_operations}
use Rattle.td_ops.specs.Types.{types_row, types_operations}

-- the shape of an attribute's value
abbrev pub attribute_shape : Attribute → Shape
attribute_shape (Reference _) = shape.Reference
attribute_shape (Truth _) = shape.Truth
attribute_shape (Number _) = shape.Number
attribute_shape (Follow _) = shape.Follow
attribute_shape RequestIdStem = shape.Stem
attribute_shape Incarnation = shape.Incarnation

-- An attribute is read by its name behind "_get_". Admin sets it by its name behind "set_", which answers the old
-- value.
abbrev pub row : Operation → Row
row Query = record {
  name = codes "query";
  body = arm Query (λ q. call.Query q) (elim [ call.Query q ↦ Some q | _ ↦ None ]) (λ _. refl)
      (λ _. refl) query;
  result = shape.Found;
}
row (Register o) = register_row o
row (Link o) = link_row o
row (Proxy o) = proxy_row o
row (Admin o) = admin_row o
row (Iterator o) = iterator_row o
row (Types o) = types_row o
row (Get a) = record {
  name = codes "_get_" ++ attribute_name a;
  body = bare_arm (call.Look (look.Get a));
  result = attribute_shape a;
}
row (SetTruth a) = record {
  name = codes "set_" ++ truth_name a;
  body =
      change_arm (SetTruth a) (λ v. change.SetTruth a v)
      (elim [ change.SetTruth _ v ↦ Some v | _ ↦ None ]) (λ _. refl) (λ _. refl) boolean;
  result = shape.Truth;
}
row (SetNumber a) = record {
  name = codes "set_" ++ number_name a;
  body =
      change_arm (SetNumber a) (λ v. change.SetNumber a v)
      (elim [ change.SetNumber _ v ↦ Some v | _ ↦ None ]) (λ _. refl) (λ _. refl) ulong;
  result = shape.Number;
}
row (SetFollow a) = record {
  name = codes "set_" ++ follow_name a;
  body =
      change_arm (SetFollow a) (λ v. change.SetFollow a v)
      (elim [ change.SetFollow _ v ↦ Some v | _ ↦ None ]) (λ _. refl) (λ _. refl) follow_option;
  result = shape.Follow;
}
row SetRequestIdStem = record {
  name = codes "set_request_id_stem";
  body =
      change_arm SetRequestIdStem (λ v. change.SetRequestIdStem v)
      (elim [ change.SetRequestIdStem v ↦ Some v | _ ↦ None ]) (λ _. refl) (λ _. refl) octets;
  result = shape.Stem;
}
row IsA = record {
  name = codes "_is_a";
  body = arm IsA (λ id. call.IsA id) (elim [ call.IsA id ↦ Some id | _ ↦ None ]) (λ _. refl)
      (λ _. refl) text;
  result = shape.Truth;
}
row NonExistent = record {
  name = codes "_non_existent";
  body = bare_arm call.NonExistent;
  result = shape.Truth;
}

-- the name that a client writes
abbrev pub name_of : Operation → List ℕ
name_of o = (row o).name

-- ---- the operations of each object

-- every object has these
abbrev pub object_operations : List Operation
object_operations = IsA ∷ NonExistent ∷ []

abbrev pub component_readings : List Operation
component_readings = map Get trader_components

abbrev pub support_readings : List Operation
support_readings = map Get support_attributes

-- Lookup, Register, Link, Proxy and Admin have these
abbrev pub trader_operations : List Operation
trader_operations = component_readings ++ support_readings ++ object_operations

abbrev pub import_readings : List Operation
import_readings = map Get import_attributes

abbrev pub link_readings : List Operation
link_readings = map Get link_attributes

abbrev pub admin_readings : List Operation
admin_readings = import_readings ++ link_readings ++ (Get RequestIdStem ∷ []) ++ trader_operations

abbrev pub truth_settings : List Operation
truth_settings = map SetTruth truths_set

abbrev pub number_settings : List Operation
number_settings = map SetNumber numbers_set

abbrev pub follow_settings : List Operation
follow_settings = map SetFollow follows_set

abbrev pub setting_operations : List Operation
setting_operations = truth_settings ++ number_settings ++ follow_settings ++ SetRequestIdStem ∷ []

abbrev pub lookup_operations : List Operation
lookup_operations = Query ∷ []

abbrev pub operations : Kind → List Operation
operations kind.Lookup = lookup_operations ++ import_readings ++ trader_operations
operations kind.Register = register_operations ++ trader_operations
operations kind.Link = link_operations ++ link_readings ++ trader_operations
operations kind.Proxy = proxy_operations ++ trader_operations
operations kind.Admin = admin_operations ++ setting_operations ++ admin_readings
operations kind.Types = types_operations ++ (Get Incarnation ∷ []) ++ object_operations
operations (kind.Iterator _) = iterator_operations ++ object_operations

-- a second name of the same operation
abbrev pub first_name : List ℕ → List ℕ
first_name name = if bytes_eq name (codes "_not_existent") then codes "_non_existent" else name

-- the operation of an object that has this name
abbrev pub operation_named : Kind → List ℕ → Option Operation
operation_named k name = value_named name_of (operations k) (first_name name)

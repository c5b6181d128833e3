-- How the repository describes a type (interface CosTradingRepos::ServiceTypeRepository, describe_type and
-- fully_describe_type).
use Rattle.std.specs.Prelude.{List}
use Rattle.td_value.specs.declared.structures.TypeStruct.{TypeStruct}
use Rattle.td_types.specs.Conforming.{ancestors}
use Rattle.td_types.specs.Properties.{full_properties}
use Rattle.td_types.specs.Repository.{ServiceType, halves}

-- its own properties, and the supertypes that it lists
abbrev pub description : ServiceType → TypeStruct
description t = record {
  if_name = t.if_name;
  props = t.props;
  super_types = t.supers;
  masked = t.masked;
  incarnation = halves t.incarnation;
}

-- all its properties and all its supertypes; the type is one of these
abbrev pub full_description : List ServiceType → ServiceType → TypeStruct
full_description types t =
    record (description t) {
      props = full_properties types t.name;
      super_types = ancestors types t.name;
    }

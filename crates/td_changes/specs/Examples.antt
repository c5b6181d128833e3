-- Worked examples: a trader with the type Printer, which has two properties of mode normal and one that is readonly.
use Rattle.std.specs.Prelude.{ℕ, true, false, List, [], ◌∷◌, codes, None}
use Rattle.td_typecode.specs.declared.code.TypeCode.TheVariants as code
use Rattle.td_typecode.specs.declared.code.Value.TheVariants as value
use Rattle.td_typecode.specs.declared.reference.Ior.{Ior}
use Rattle.td_ior.specs.Nil.{nil}
use Rattle.td_ops.specs.declared.call.Change.{Change}
use Rattle.td_ops.specs.declared.call.Change.TheVariants as change
use Rattle.td_policy.specs.Attributes.{default_attributes}
use Rattle.td_value.specs.declared.enumerations.PropertyMode.{PropertyMode}
use Rattle.td_value.specs.declared.enumerations.PropertyMode.TheVariants.{Normal, Readonly}
use Rattle.td_value.specs.declared.structures.PropStruct.{PropStruct}
use Rattle.td_value.specs.declared.structures.Property.{Property}
use Rattle.td_types.specs.Repository.{Repository}
use Rattle.td_changes.specs.Applying.{apply}
use Rattle.td_register.specs.Stores.{Store}

abbrev pub printer : List ℕ
printer = codes "Printer"

-- a reference without profiles, which is no nil reference
abbrev pub object : Ior
object = record { id = codes "IDL:Printer:1.0"; profiles = [] }

abbrev pub boolean : PropertyMode → List ℕ → PropStruct
boolean mode name = record { name = name; value_type = code.Boolean; mode = mode }

abbrev pub truth : List ℕ → Property
truth name = record {
  name = name;
  value = record { code = code.Boolean; value = value.Boolean true };
}

abbrev pub types : Repository
types = record {
  types = record {
    name = printer;
    if_name = codes "IDL:Printer:1.0";
    props = boolean Normal (codes "Colour") ∷ boolean Normal (codes "Duplex")
        ∷ boolean Readonly (codes "Serial") ∷ [];
    supers = [];
    masked = false;
    incarnation = 1;
  } ∷ [];
  interfaces = [];
  last = 1;
}

-- seven offers were exported before, and are gone
abbrev pub opening : Store
opening = record {
  types = types;
  offers = [];
  links = [];
  attributes = default_attributes (codes "A") (record {
    lookup = nil;
    register = nil;
    link = nil;
    proxy = nil;
    admin =
        nil;
    types = nil;
  });
  last_offer = 7;
}

abbrev pub export_printer : List Property → Change
export_printer properties = change.Export object printer properties

abbrev pub masked_store : Store
masked_store = (apply opening (change.MaskType printer)).store

-- offer 8 has all three properties
abbrev pub colour_duplex_serial : List Property
colour_duplex_serial = truth (codes "Colour") ∷ truth (codes "Duplex") ∷ truth (codes "Serial") ∷ []

abbrev pub with_printer : Store
with_printer = record opening {
  offers = record {
    number = 8;
    reference = object;
    service_type = printer;
    incarnation = 1;
    properties = colour_duplex_serial;
    proxy
        = None;
  } ∷ [];
  last_offer = 8;
}

-- the third of these is readonly, and the offer has it
abbrev pub modify_all : Change
modify_all = change.Modify (codes "8") [] colour_duplex_serial

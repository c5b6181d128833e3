-- Worked examples: a trader with the types Device, Printer below it, and Scanner. Device has a readonly property and
-- one of mode normal, which Printer inherits.
use Rattle.std.specs.Prelude.{ℕ, Bool, true, false, List, [], ◌∷◌, map, codes, None, Some}
use Rattle.td_typecode.specs.declared.code.Any.{Any}
use Rattle.td_typecode.specs.declared.code.Member.{Member}
use Rattle.td_typecode.specs.declared.code.TypeCode.{TypeCode}
use Rattle.td_typecode.specs.declared.code.TypeCode.TheVariants as code
use Rattle.td_typecode.specs.declared.code.Value.TheVariants as value
use Rattle.td_typecode.specs.declared.reference.Ior.{Ior}
use Rattle.td_value.specs.Dynamic.{dynamic_id}
use Rattle.td_value.specs.declared.enumerations.PropertyMode.{PropertyMode}
use Rattle.td_value.specs.declared.enumerations.PropertyMode.TheVariants.{Normal, Readonly}
use Rattle.td_value.specs.declared.structures.PropStruct.{PropStruct}
use Rattle.td_value.specs.declared.structures.Property.{Property}
use Rattle.td_types.specs.declared.entry.ServiceType.{ServiceType}
use Rattle.td_policy.specs.Attributes.{default_attributes}
use Rattle.td_policy.specs.Stated.{nothing}
use Rattle.td_policy.specs.declared.attributes.Attributes.{Attributes}
use Rattle.td_policy.specs.declared.stated.Stated.{Stated}
use Rattle.td_store.specs.Candidates.{candidates}
use Rattle.td_store.specs.declared.record.OfferRecord.{OfferRecord}

-- ---- types

abbrev pub device : List ℕ
device = codes "Device"

abbrev pub printer : List ℕ
printer = codes "Printer"

abbrev pub scanner : List ℕ
scanner = codes "Scanner"

abbrev pub number : PropertyMode → List ℕ → PropStruct
number mode name = record { name = name; value_type = code.ULong; mode = mode }

abbrev pub type : List ℕ → List PropStruct → (supers : List (List ℕ)) → (incarnation : ℕ)
    → ServiceType
type name props supers incarnation = record {
  name = name;
  if_name = [];
  props = props;
  supers = supers;
  masked = false;
  incarnation = incarnation;
}

abbrev pub device_type : ServiceType
device_type = type device (number Readonly (codes "Serial") ∷ number Normal (codes "Queue") ∷ [])
    [] 1

abbrev pub printer_type : (incarnation : ℕ) → ServiceType
printer_type incarnation = type printer [] (device ∷ []) incarnation

abbrev pub scanner_type : ServiceType
scanner_type = type scanner [] [] 3

abbrev pub types : List ServiceType
types = device_type ∷ printer_type 2 ∷ scanner_type ∷ []

abbrev pub printer_masked : List ServiceType
printer_masked = device_type ∷ record (printer_type 2) { masked = true } ∷ scanner_type ∷ []

-- removed and added again
abbrev pub printer_renewed : List ServiceType
printer_renewed = device_type ∷ scanner_type ∷ printer_type 4 ∷ []

-- ---- offers

abbrev pub plain_property : List ℕ → Property
plain_property name =
    record { name = name; value = record { code = code.ULong; value = value.ULong 7 } }

abbrev pub member : TypeCode → Member
member c = record { name = []; code = c }

abbrev pub dynamic_code : TypeCode
dynamic_code = code.Struct dynamic_id [] (member (code.ObjRef [] []) ∷ member code.Code
    ∷ member code.AnyCode ∷ [])

abbrev pub nobody : Ior
nobody = record { id = []; profiles = [] }

abbrev pub nothing_more : Any
nothing_more = record { code = code.Null; value = value.Empty }

-- a property whose value an evaluator tells when it is asked
abbrev pub dynamic_property : List ℕ → Property
dynamic_property name = record {
  name = name;
  value = record {
    code = dynamic_code;
    value = value.Struct (value.ObjRef nobody ∷ value.Code code.ULong ∷ value.AnyValue nothing_more
        ∷ []);
  };
}

abbrev pub offer : ℕ → List ℕ → (incarnation : ℕ) → List Property → OfferRecord
offer n name incarnation properties = record {
  number = n;
  reference = nobody;
  service_type = name;
  incarnation = incarnation;
  properties = properties;
  proxy = None;
}

abbrev pub as_proxy : OfferRecord → OfferRecord
as_proxy o = record o {
  proxy = Some
      (record { if_match_all = false; recipe = codes "$*"; policies = [] });
}

abbrev pub serial : Property
serial = plain_property (codes "Serial")

abbrev pub queue : Property
queue = plain_property (codes "Queue")

-- One of Device and four of Printer, of which one is a proxy offer, one has a dynamic property and one has one of mode
-- normal; and one of Scanner.
abbrev pub offers : List OfferRecord
offers =
    offer 1 device 1 (serial ∷ [])
    ∷ offer 2 printer 2 (serial ∷ [])
    ∷ as_proxy (offer 3 printer 2 (serial ∷ []))
    ∷ offer 4 printer 2 (serial ∷ dynamic_property (codes "Queue") ∷ [])
    ∷ offer 5 printer 2 (serial ∷ queue ∷ [])
    ∷ offer 6 scanner 3 []
    ∷ []

-- ---- what is asked

-- a new trader's, which supports all
abbrev pub usual : Attributes
usual = default_attributes (codes "A") (record {
  lookup = nobody;
  register = nobody;
  link = nobody;
  proxy = nobody;
  admin = nobody;
  types = nobody;
})

abbrev pub exactly : Bool → Stated
exactly b = record nothing { exact = Some b }

abbrev pub proxies_used : Bool → Stated
proxies_used b = record nothing { use_proxy = Some b }

abbrev pub dynamic_used : Bool → Stated
dynamic_used b = record nothing { use_dynamic = Some b }

abbrev pub modifiable_used : Bool → Stated
modifiable_used b = record nothing { use_modifiable = Some b }

-- the numbers of the first so many offers that are searched
abbrev pub found : List ServiceType → Attributes → Stated → (asked : List ℕ) → (count : ℕ) → List ℕ
found known a s asked count = map (λ o. o.number) (candidates known a s asked count offers)

-- Which offers a query searches (OMG's Trading Object Service, "Lookup Interface", query, and "Policies" on
-- exact_type_match, use_proxy_offers, use_dynamic_properties, use_modifiable_properties and search_card).
use Rattle.std.specs.Prelude.{ℕ, Bool, true, false, not, ◌&&◌, ◌||◌, ◌==◌, if◌then◌else◌, List, filter, length, take}
use Rattle.std.specs.Prelude.{◌+◌, Option, Some, None, is_none, unwrap_or}
use Rattle.std.specs.List.{list_any, list_all}
use Rattle.std.specs.Str.{bytes_eq}
use Rattle.td_typecode.specs.Same.{shape}
use Rattle.td_typecode.specs.declared.code.Any.{Any}
use Rattle.td_value.specs.Dynamic.{dynamic_shape}
use Rattle.td_value.specs.declared.enumerations.PropertyMode.{PropertyMode}
use Rattle.td_value.specs.declared.enumerations.PropertyMode.TheVariants.{Normal}
use Rattle.td_value.specs.declared.structures.PropStruct.{PropStruct}
use Rattle.td_value.specs.declared.structures.Property.{Property}
use Rattle.td_types.specs.Conforming.{conforms, subtypes}
use Rattle.td_types.specs.Modes.{is_readonly}
use Rattle.td_types.specs.Properties.{property_named, full_properties}
use Rattle.td_types.specs.Repository.{incarnation_of}
use Rattle.td_types.specs.declared.entry.ServiceType.{ServiceType}
use Rattle.td_policy.specs.declared.attributes.Attributes.{Attributes}
use Rattle.td_policy.specs.declared.stated.Stated.{Stated}
use Rattle.td_store.specs.OfferLists.{is_of}
use Rattle.td_store.specs.declared.record.OfferRecord.{OfferRecord}

-- ---- the offer's type

abbrev pub is_incarnation : ℕ → Option ℕ → Bool
is_incarnation i None = false
is_incarnation i (Some j) = j == i

-- the type of its name is there, with the incarnation that it had when the offer came
abbrev pub belongs : List ServiceType → OfferRecord → Bool
belongs types o = is_incarnation o.incarnation (incarnation_of types o.service_type)

-- exact_type_match, FALSE where it isn't stated
abbrev pub is_exact : Stated → Bool
is_exact s = unwrap_or s.exact false

-- the type of a name conforms to the asked one, or is it
abbrev pub is_asked : List ServiceType → (exact : Bool) → (asked name : List ℕ) → Bool
is_asked types exact asked name = if exact then bytes_eq name asked else conforms types name asked

-- the offer's type does
abbrev pub has_asked_type : List ServiceType → Stated → (asked : List ℕ) → OfferRecord → Bool
has_asked_type types s asked o = belongs types o && is_asked types (is_exact s) asked o.service_type

-- the offer belongs to a type, and this conforms to the asked one
abbrev pub has_conforming_type : List ServiceType → (asked : List ℕ) → OfferRecord → Bool
has_conforming_type types asked o = belongs types o && conforms types o.service_type asked

-- ---- what else leaves it out

-- a policy on what is used, TRUE where it isn't stated
abbrev pub uses : Option Bool → Bool
uses stated = unwrap_or stated true

-- proxy offers are left out unless they are used and supported
abbrev pub passes_proxy : Attributes → Stated → OfferRecord → Bool
passes_proxy a s o = is_none o.proxy || (uses s.use_proxy && a.supports_proxy_offers)

-- the any holds a DynamicProp
abbrev pub is_dynamic : Any → Bool
is_dynamic a = dynamic_shape (shape a.code)

-- one of the properties is evaluated when it is asked for
abbrev pub has_dynamic : List Property → Bool
has_dynamic properties = list_any (λ p. is_dynamic p.value) properties

-- offers with a dynamic property are left out unless these are used and supported
abbrev pub passes_dynamic : Attributes → Stated → OfferRecord → Bool
passes_dynamic a s o = (uses s.use_dynamic && a.supports_dynamic_properties)
    || not (has_dynamic o.properties)

-- the mode that a type gives a property, normal where it doesn't name it
abbrev pub mode_in : Option PropStruct → PropertyMode
mode_in None = Normal
mode_in (Some p) = p.mode

abbrev pub mode_of : List ServiceType → (type_name name : List ℕ) → PropertyMode
mode_of types type_name name = mode_in (property_named (full_properties types type_name) name)

abbrev pub is_fixed : List ServiceType → (type_name : List ℕ) → Property → Bool
is_fixed types type_name p = is_readonly (mode_of types type_name p.name)

-- offers with a modifiable property are left out where these are supported and not used
abbrev pub passes_modifiable : List ServiceType → Attributes → Stated → OfferRecord → Bool
passes_modifiable types a s o =
    (uses s.use_modifiable || not a.supports_modifiable_properties)
    || list_all (is_fixed types o.service_type) o.properties

-- ---- all together

-- the policies on what is used leave it in
abbrev pub is_used : List ServiceType → Attributes → Stated → OfferRecord → Bool
is_used types a s o = (passes_proxy a s o && passes_dynamic a s o) && passes_modifiable types a s o

abbrev pub is_candidate : List ServiceType → Attributes → Stated → (asked : List ℕ) → OfferRecord
    → Bool
is_candidate types a s asked o = has_asked_type types s asked o && is_used types a s o

-- the first so many of them, in the order of the offers
abbrev pub candidates : List ServiceType → Attributes → Stated → (asked : List ℕ) → (count : ℕ)
    → List OfferRecord → List OfferRecord
candidates types a s asked count offers = take count (filter (is_candidate types a s asked) offers)

-- ---- how much is read

-- the offer came under one of these incarnations
abbrev pub is_among : List ℕ → OfferRecord → Bool
is_among incarnations o = list_any (λ i. is_of i o) incarnations

-- the types that conform to the asked type, and their offers
abbrev pub most_steps : List ServiceType → (asked : List ℕ) → List OfferRecord → ℕ
most_steps types asked offers =
    length (subtypes types asked) + length (filter (is_among (subtypes types asked)) offers)

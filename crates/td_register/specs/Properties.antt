-- What is asked of an offer's properties (OMG's Trading Object Service, interface Register, export; the exceptions
-- IllegalPropertyName, DuplicatePropertyName, PropertyTypeMismatch, ReadonlyDynamicProperty and
-- MissingMandatoryProperty of module CosTrading).
use Rattle.std.specs.Prelude.{ℕ, nat_lt, Bool, true, false, not, ◌&&◌, ◌||◌, if◌then◌else◌, List, [], ◌∷◌, length, find}
use Rattle.std.specs.Prelude.{Option, None, Some}
use Rattle.std.specs.List.{list_any}
use Rattle.std.specs.Str.{bytes_eq}
use Rattle.td_cdr.specs.Names.{identifier}
use Rattle.td_cdr.specs.declared.order.Order.TheVariants.{Big}
use Rattle.td_typecode.specs.Labels.{ValueLayer}
use Rattle.td_typecode.specs.Same.{same}
use Rattle.td_typecode.specs.Values.{code_in}
use Rattle.td_typecode.specs.declared.code.Any.{Any}
use Rattle.td_typecode.specs.declared.code.TypeCode.{TypeCode}
use Rattle.td_typecode.specs.declared.code.TypeCode.TheOpen as c
use Rattle.td_typecode.specs.declared.code.Value.{Value, out-Value}
use Rattle.td_typecode.specs.declared.reference.Ior.{Ior}
use Rattle.td_exceptions.specs.declared.exception.UserException.TheVariants.{IllegalPropertyName, DuplicatePropertyName}
use Rattle.td_exceptions.specs.declared.exception.UserException.TheVariants.{PropertyTypeMismatch}
use Rattle.td_exceptions.specs.declared.exception.UserException.TheVariants.{ReadonlyDynamicProperty}
use Rattle.td_exceptions.specs.declared.exception.UserException.TheVariants.{MissingMandatoryProperty}
use Rattle.td_types.specs.Modes.{is_mandatory, is_readonly}
use Rattle.td_types.specs.Properties.{property_named}
use Rattle.td_types.specs.Repository.{is_among}
use Rattle.td_value.specs.Structures.{offer}
use Rattle.td_value.specs.declared.enumerations.PropertyMode.{PropertyMode}
use Rattle.td_value.specs.declared.structures.PropStruct.{PropStruct}
use Rattle.td_value.specs.declared.structures.Property.{Property}
use Rattle.td_store.specs.Candidates.{is_dynamic, mode_in}
use Rattle.td_store.specs.Stores.{most_properties, most_bytes}
use Rattle.td_register.specs.Causes.{Cause, raise_if, ◌otherwise◌}

abbrev pub carries : List Property → List ℕ → Bool
carries properties name = list_any (λ p. bytes_eq p.name name) properties

-- ---- dynamic properties

abbrev pub second_code : List Value → Option TypeCode
second_code [] = None
second_code (v ∷ []) = None
second_code (v ∷ w ∷ ws) = code_in (out-Value w)

abbrev pub members_code : ValueLayer → Option TypeCode
members_code (c.Value::Struct vs) = second_code vs
members_code l = None

-- the returned_type of a DynamicProp, its second member
abbrev pub returned_type : Value → Option TypeCode
returned_type v = members_code (out-Value v)

-- ---- types of values

abbrev pub is_same_as : TypeCode → Option TypeCode → Bool
is_same_as declared None = false
is_same_as declared (Some code) = same code declared

-- the type of an any's value, or of the values that it is evaluated to
abbrev pub has_type : TypeCode → Any → Bool
has_type declared a = if is_dynamic a then is_same_as declared (returned_type a.value)
    else same a.code declared

-- where a type names the property
abbrev pub is_typed : Option PropStruct → Any → Bool
is_typed None a = true
is_typed (Some declared) a = has_type declared.value_type a

-- ---- modes

-- a property that the type doesn't name has mode normal
abbrev pub mode_of : List PropStruct → List ℕ → PropertyMode
mode_of demanded name = mode_in (property_named demanded name)

-- ---- faults

-- A dynamic property is a mismatch where those aren't supported, whether the type names it or not.
abbrev pub mismatches : (supported : Bool) → List PropStruct → Property → Bool
mismatches supported demanded p =
    (is_dynamic p.value && not supported) || not (is_typed (property_named demanded p.name) p.value)

-- a name that is none, or that stands before
abbrev pub name_cause : (before : List (List ℕ)) → List ℕ → Cause
name_cause before name =
    raise_if (not (identifier name)) (IllegalPropertyName name)
    otherwise raise_if (is_among name before) (DuplicatePropertyName name)

-- a value that the type doesn't let stand there
abbrev pub value_cause : (supported : Bool) → (type_name : List ℕ) → List PropStruct → Property
    → Cause
value_cause supported type_name demanded p =
    raise_if (mismatches supported demanded p) (PropertyTypeMismatch type_name p)
    otherwise raise_if (is_dynamic p.value && is_readonly (mode_of demanded p.name))
    (ReadonlyDynamicProperty type_name p.name)

-- the first cause, property by property
abbrev pub properties_cause : (supported : Bool) → (type_name : List ℕ) → List PropStruct
    → (before : List (List ℕ)) → List Property → Cause
properties_cause supported type_name demanded before [] = None
properties_cause supported type_name demanded before (p ∷ ps) =
    name_cause before p.name
    otherwise value_cause supported type_name demanded p
    otherwise properties_cause supported type_name demanded (p.name ∷ before) ps

-- the first mandatory property that an offer lacks
abbrev pub missing_property : List PropStruct → List Property → Option PropStruct
missing_property demanded properties = find (λ d. is_mandatory d.mode
    && not (carries properties d.name))
    demanded

abbrev pub missing_cause : (type_name : List ℕ) → Option PropStruct → Cause
missing_cause type_name None = None
missing_cause type_name (Some d) = raise_if true (MissingMandatoryProperty type_name d.name)

-- ---- limits

-- the encoded bytes of an offer: of its reference and its properties
abbrev pub encoded_size : Ior → List Property → ℕ
encoded_size reference properties = length
    (offer.format.writes (record { reference = reference; properties = properties }) Big 0)

abbrev pub is_too_large : Ior → List Property → Bool
is_too_large reference properties = nat_lt most_properties (length properties)
    || nat_lt most_bytes (encoded_size reference properties)

-- Why a type isn't added (interface CosTradingRepos::ServiceTypeRepository, add_type), the causes in the order in
-- which they are looked for.
use Rattle.std.specs.Prelude.{ℕ, ◌+◌, ◌^◌, nat_lt, Bool, false, not, ◌&&◌, ◌||◌, if◌then◌else◌, List, [], ◌∷◌, ◌++◌}
use Rattle.std.specs.Prelude.{length, map, flat_map, find, Option, None, Some}
use Rattle.td_cdr.specs.Names.{word_name, identifier}
use Rattle.td_cdr.specs.declared.order.Order.TheVariants.{Big}
use Rattle.td_typecode.specs.Same.{same}
use Rattle.td_value.specs.Structures.{type_struct}
use Rattle.td_value.specs.declared.structures.PropStruct.{PropStruct}
use Rattle.td_types.specs.Descriptions.{full_description}
use Rattle.td_types.specs.Interfaces.{interface_conforms}
use Rattle.td_types.specs.Modes.{is_at_least}
use Rattle.td_types.specs.Properties.{is_called, full_properties}
use Rattle.td_types.specs.Repository.{Repository, ServiceType, has_type, type_named, is_among}
use Rattle.td_types.specs.declared.fault.RepoFault.{RepoFault}
use Rattle.td_types.specs.declared.fault.RepoFault.TheVariants as fault

-- the type that would be added
abbrev pub new_type : Repository → (name if_name : List ℕ) → List PropStruct → List (List ℕ)
    → ServiceType
new_type r name if_name props supers = record {
  name = name;
  if_name = if_name;
  props = props;
  supers = supers;
  masked = false;
  incarnation = r.last + 1;
}

abbrev pub with_type : Repository → ServiceType → Repository
with_type r t = record r { types = r.types ++ t ∷ []; last = t.incarnation }

-- the first cause, or else the second
abbrev pub or_else : {X : Type 0} → Option X → Option X → Option X
or_else None second = second
or_else (Some x) second = Some x

-- ---- names

abbrev pub name_fault : Repository → List ℕ → Option RepoFault
name_fault r name =
    if not (word_name name) then Some (fault.IllegalServiceType name)
    else if has_type r.types name then Some (fault.ServiceTypeExists name)
    else None

-- ---- properties

-- the first of these that has no property's name, or the name of one before it
abbrev pub property_fault : (before : List (List ℕ)) → List PropStruct → Option RepoFault
property_fault before [] = None
property_fault before (p ∷ ps) =
    if not (identifier p.name) then Some (fault.IllegalPropertyName p.name)
    else if is_among p.name before then Some (fault.DuplicatePropertyName p.name)
    else property_fault (p.name ∷ before) ps

-- ---- supertypes

-- no type's name, or the name of one before it, or one whose interface the new type's doesn't conform to
abbrev pub base_fault : Repository → (name if_name : List ℕ) → (before : List (List ℕ))
    → (super : List ℕ) → Option ServiceType → Option RepoFault
base_fault r name if_name before super None = Some (fault.UnknownServiceType super)
base_fault r name if_name before super (Some base) =
    if is_among super before then Some (fault.DuplicateServiceTypeName super)
    else if interface_conforms r.interfaces if_name base.if_name then None
    else Some (fault.InterfaceTypeMismatch super base.if_name name if_name)

abbrev pub super_fault : Repository → (name if_name : List ℕ) → (before : List (List ℕ)) → List ℕ
    → Option RepoFault
super_fault r name if_name before super =
    if word_name super then base_fault r name if_name before super (type_named r.types super)
    else Some (fault.IllegalServiceType super)

abbrev pub supers_fault : Repository → (name if_name : List ℕ) → (before : List (List ℕ))
    → List (List ℕ) → Option RepoFault
supers_fault r name if_name before [] = None
supers_fault r name if_name before (s ∷ ss) =
    or_else (super_fault r name if_name before s) (supers_fault r name if_name (s ∷ before) ss)

-- ---- redefined properties

-- a property's definition, the type that gives it, and whether that is the new type
pub record Definition : Type 0 where
  pub type : List ℕ
  pub property : PropStruct
  pub own : Bool

abbrev pub definitions : List ℕ → Bool → List PropStruct → List Definition
definitions type own props = map (λ p. record { type = type; property = p; own = own }) props

-- The definitions agree where the value types are the same and, if the earlier one is the new type's own, its mode
-- is at least the supertype's.
abbrev pub agree : Definition → PropStruct → Bool
agree earlier p =
    same earlier.property.value_type p.value_type
    && (not earlier.own || is_at_least earlier.property.mode p.mode)

-- against the earlier definition of the name, if there is one
abbrev pub conflict : Option Definition → Definition → Option RepoFault
conflict None d = None
conflict (Some earlier) d =
    if agree earlier d.property then None
    else Some (fault.ValueTypeRedefinition earlier.type earlier.property d.type d.property)

abbrev pub earlier_of : List Definition → List ℕ → Option Definition
earlier_of earlier name = find (λ d. is_called name d.property) earlier

-- the first of these definitions, in order, that conflicts with the earlier one of its name
abbrev pub redefinition : (earlier : List Definition) → List Definition → Option RepoFault
redefinition earlier [] = None
redefinition earlier (d ∷ ds) =
    or_else (conflict (earlier_of earlier d.property.name) d) (redefinition (earlier ++ d ∷ []) ds)

-- of each supertype in order its full properties in order
abbrev pub inherited_definitions : Repository → List (List ℕ) → List Definition
inherited_definitions r supers = flat_map (λ s. definitions s false (full_properties r.types s))
    supers

-- ---- limits

abbrev pub most_types : ℕ
most_types = 4096

abbrev pub most_properties : ℕ
most_properties = 256

abbrev pub most_bytes : ℕ
most_bytes = 1048576

abbrev pub last_incarnation : ℕ
last_incarnation = 2 ^ 40

-- a limit would be passed by the repository with this type at its end
abbrev pub passes_limit : Repository → ServiceType → Bool
passes_limit after t =
    nat_lt most_types (length after.types) || nat_lt last_incarnation after.last
    || nat_lt most_properties (length (full_properties after.types t.name))
    || nat_lt most_bytes (length (type_struct.format.writes (full_description after.types t) Big 0))

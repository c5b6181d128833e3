-- The properties that a service type has by itself and by its supertypes (OMG's Trading Object Service, "Service
-- Types", on the inheritance of properties).
use Rattle.std.specs.Prelude.{ℕ, Bool, if◌then◌else◌, List, [], ◌∷◌, ◌++◌, map, reverse, find, flat_map, Option}
use Rattle.std.specs.List.{list_any}
use Rattle.std.specs.Str.{bytes_eq}
use Rattle.td_value.specs.declared.enumerations.PropertyMode.{PropertyMode}
use Rattle.td_value.specs.declared.enumerations.PropertyMode.TheVariants.{Normal}
use Rattle.td_value.specs.declared.structures.PropStruct.{PropStruct}
use Rattle.td_types.specs.Modes.{join}
use Rattle.td_types.specs.Repository.{ServiceType, is_named}

abbrev pub is_called : List ℕ → PropStruct → Bool
is_called name p = bytes_eq p.name name

-- a property of that name is among these
abbrev pub has_property : List PropStruct → List ℕ → Bool
has_property props name = list_any (is_called name) props

-- the first property of that name
abbrev pub property_named : List PropStruct → List ℕ → Option PropStruct
property_named props name = find (is_called name) props

-- the join of the modes that these give a name
abbrev pub joined_mode : List PropStruct → List ℕ → PropertyMode
joined_mode [] name = Normal
joined_mode (p ∷ ps) name = if is_called name p then join p.mode (joined_mode ps name)
    else joined_mode ps name

-- those that a type's own properties leave over, each name once, with the first's value type
abbrev pub newcomers : (own inherited : List PropStruct) → List PropStruct
newcomers own [] = []
newcomers own (p ∷ ps) = if has_property own p.name then newcomers own ps else p
    ∷ newcomers (p ∷ own) ps

-- with the mode that all of these together demand
abbrev pub with_stronger_mode : List PropStruct → PropStruct → PropStruct
with_stronger_mode inherited p = record p { mode = joined_mode inherited p.name }

-- Its own properties in order, and then, per supertype in order, each full property of it whose name isn't there
-- yet: with the first supertype's value type, and the join of the modes that all supertypes give the name.
abbrev pub with_inherited : (own inherited : List PropStruct) → List PropStruct
with_inherited own inherited = own ++ map (with_stronger_mode inherited) (newcomers own inherited)

-- The full properties of a type. The types are listed from the youngest on, so that a type's supertypes stand
-- behind it.
abbrev pub full : List ServiceType → List ℕ → List PropStruct
full [] name = []
full (t ∷ older) name =
    if is_named name t then with_inherited t.props (flat_map (full older) t.supers)
    else full older name

unfoldable pub full_properties : List ServiceType → List ℕ → List PropStruct
full_properties types name = full (reverse types) name

-- Full properties as they are gathered, supertype by supertype.
use Rattle.std.specs.Prelude.{◌≡◌, ◌<◌, ◌≤◌, List, ◌++◌, length, map, Result, Ok, Err}
use Rattle.td_value.specs.declared.structures.PropStruct.{PropStruct}
use Rattle.td_types.specs.Adding.{most_properties}
use Rattle.td_types.specs.Properties.{newcomers, with_stronger_mode}
use Rattle.td_types.specs.declared.fault.TypesFault.{TypesFault}
use Rattle.td_types.specs.declared.fault.TypesFault.TheVariants.{User, Full, Memory}

-- those there, and the newcomers among further ones, with the modes that all inherited ones give
abbrev pub with_further : (inherited there further : List PropStruct) → List PropStruct
with_further inherited there further = there ++ map (with_stronger_mode inherited)
    (newcomers there further)

-- these properties, or more than a type has at most, or running out of memory
abbrev pub IsMore : List PropStruct → Result (List PropStruct) TypesFault → Type 0
IsMore full (Ok props) = (props ≡ full) × (length props ≤ most_properties)
IsMore full (Err (User f)) = ⊥
IsMore full (Err Full) = most_properties < length full
IsMore full (Err Memory) = Unit {0}

-- so many are now there that what is later comes to what all came to before
abbrev pub IsMoreBy : (inherited old new further later : List PropStruct)
    → Result (Unit {0}) TypesFault → Type 0
IsMoreBy inherited old new further later (Ok _) =
    (with_further inherited new later ≡ with_further inherited old further)
    × (length new ≤ most_properties)
IsMoreBy inherited old new further later (Err (User f)) = ⊥
IsMoreBy inherited old new further later (Err Full) = most_properties
    < length (with_further inherited old further)
IsMoreBy inherited old new further later (Err Memory) = Unit {0}

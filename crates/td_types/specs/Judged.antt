-- A judgement: nothing is at fault, or this is, or memory ran out, which says nothing.
use Rattle.std.specs.Prelude.{◌≡◌, ℕ, false, List, [], ◌∷◌, map, flat_map, Option, None, Some, Result, Ok, Err}
use Rattle.std.specs.List.{AllByRecursion}
use Rattle.td_value.specs.declared.structures.PropStruct.{PropStruct}
use Rattle.td_types.specs.Adding.{Definition, definitions}
use Rattle.td_types.specs.Kept.{entry_type, IsValidEntry}
use Rattle.td_types.specs.Sought.{entry_named}
use Rattle.td_types.specs.declared.entry.TypeEntry.{TypeEntry}
use Rattle.td_types.specs.declared.fault.RepoFault.{RepoFault}
use Rattle.td_types.specs.declared.fault.TypesFault.{TypesFault}
use Rattle.td_types.specs.declared.fault.TypesFault.TheVariants.{User, Full, Memory}

abbrev pub IsFirstFault : {X : Type 0} → Option RepoFault → (X → Type 0) → Result X TypesFault
    → Type 0
IsFirstFault fault given (Ok x) = (fault ≡ None) × given x
IsFirstFault fault given (Err (User f)) = fault ≡ Some f
IsFirstFault fault given (Err Full) = ⊥
IsFirstFault fault given (Err Memory) = Unit {0}

-- each entry keeps what its type has among all of them
abbrev pub AreKept : List TypeEntry → Type 0
AreKept entries = AllByRecursion (IsValidEntry (map entry_type entries)) entries

-- the entries of these names, in order
abbrev pub AreBases : List TypeEntry → List (List ℕ) → List TypeEntry → Type 0
AreBases entries [] [] = Unit {0}
AreBases entries [] (b ∷ bs) = ⊥
AreBases entries (s ∷ ss) [] = ⊥
AreBases entries (s ∷ ss) (b ∷ bs) = (entry_named entries s ≡ Some b) × AreBases entries ss bs

-- of each of these in order its name and then its ancestors
abbrev pub names_above : List TypeEntry → List (List ℕ)
names_above bases = flat_map (λ b. b.service_type.name ∷ b.ancestors) bases

-- of each of these in order its full properties in order
abbrev pub inherited_properties : List TypeEntry → List PropStruct
inherited_properties bases = flat_map (λ b. b.full) bases

abbrev pub inherited_from : List TypeEntry → List Definition
inherited_from bases = flat_map (λ b. definitions b.service_type.name false b.full) bases

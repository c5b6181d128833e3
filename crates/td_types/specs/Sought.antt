-- An entry looked for by its name (interface CosTradingRepos::ServiceTypeRepository, on IllegalServiceType and
-- UnknownServiceType).
use Rattle.std.specs.Prelude.{◌≡◌, ℕ, if◌then◌else◌, List, find, Option, None, Some, Result, Ok, Err, IsErr}
use Rattle.td_cdr.specs.Names.{word_name}
use Rattle.td_types.specs.Kept.{entry_type}
use Rattle.td_types.specs.Repository.{is_named}
use Rattle.td_types.specs.declared.entry.TypeEntry.{TypeEntry}
use Rattle.td_types.specs.declared.fault.RepoFault.{RepoFault}
use Rattle.td_types.specs.declared.fault.RepoFault.TheVariants as fault
use Rattle.td_types.specs.declared.fault.TypesFault.{TypesFault}
use Rattle.td_types.specs.declared.fault.TypesFault.TheVariants.{User, Full, Memory}

abbrev pub entry_named : List TypeEntry → List ℕ → Option TypeEntry
entry_named entries name = find (λ e. is_named name (entry_type e)) entries

abbrev pub entry_or_unknown : Option TypeEntry → List ℕ → Result TypeEntry RepoFault
entry_or_unknown None name = Err (fault.UnknownServiceType name)
entry_or_unknown (Some e) name = Ok e

-- the entry of that name, or why there is none
abbrev pub find_entry : List TypeEntry → List ℕ → Result TypeEntry RepoFault
find_entry entries name =
    if word_name name then entry_or_unknown (entry_named entries name) name else Err
    (fault.IllegalServiceType name)

-- refused for this cause, or memory ran out, as it may for a refusal alone
abbrev pub IsRefusedCall : {X : Type 0} → Result X RepoFault → TypesFault → Type 0
IsRefusedCall comes (User f) = comes ≡ Err f
IsRefusedCall comes Full = ⊥
IsRefusedCall comes Memory = IsErr comes

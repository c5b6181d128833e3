-- A type that is to be added, step by step.
use Rattle.std.specs.Prelude.{◌≡◌, ◌<◌, ◌≤◌, ℕ, false, length, map, List, [], ◌∷◌, ◌++◌, Result, Ok, Err}
use Rattle.td_cdr.specs.declared.order.Order.TheVariants.{Big}
use Rattle.td_value.specs.Structures.{type_struct}
use Rattle.td_value.specs.declared.structures.PropStruct.{PropStruct}
use Rattle.td_types.specs.Adding.{most_bytes, with_type}
use Rattle.td_types.specs.Calls.{add_type, refuse}
use Rattle.td_types.specs.Kept.{entry_type, kept_description, repository, AreEntries}
use Rattle.td_types.specs.Repository.{InterfaceBases, has_type}
use Rattle.td_types.specs.declared.entry.TypeEntry.{TypeEntry}
use Rattle.td_types.specs.declared.fault.TypesFault.{TypesFault}
use Rattle.td_types.specs.declared.fault.TypesFault.TheVariants.{User, Full, Memory}
use Rattle.td_types.specs.declared.reply.TypesReply.TheVariants as reply

abbrev pub entry_of : (incarnation : ℕ) (name if_name : List ℕ) → List PropStruct → List (List ℕ)
    → List PropStruct → List (List ℕ) → TypeEntry
entry_of incarnation name if_name props supers full above =
    record {
      service_type =
          record {
            name = name;
            if_name = if_name;
            props = props;
            supers = supers;
            masked = false;
            incarnation = incarnation;
          };
      ancestors = above;
      full = full;
    }

abbrev pub described_bytes : TypeEntry → ℕ
described_bytes e = length (type_struct.format.writes (kept_description e) Big 0)

-- the entry of these parts, whose full description is short enough
abbrev pub IsMeasured : (incarnation : ℕ) (name if_name : List ℕ) → List PropStruct → List (List ℕ)
    → List PropStruct → List (List ℕ) → Result TypeEntry TypesFault → Type 0
IsMeasured incarnation name if_name props supers full above (Ok e) =
    (e ≡ entry_of incarnation name if_name props supers full above)
    × (described_bytes e ≤ most_bytes)
IsMeasured incarnation name if_name props supers full above (Err (User f)) = ⊥
IsMeasured incarnation name if_name props supers full above (Err Full) =
    most_bytes < described_bytes (entry_of incarnation name if_name props supers full above)
IsMeasured incarnation name if_name props supers full above (Err Memory) = Unit {0}

-- the answer with the new entry, which is kept beside the others; or the refusal
abbrev pub IsPrepared : List TypeEntry → InterfaceBases → (last : ℕ) (name if_name : List ℕ)
    → List PropStruct
    → List (List ℕ) → Result TypeEntry TypesFault → Type 0
IsPrepared entries interfaces last name if_name props supers (Ok e) =
    (add_type (repository entries interfaces last) name if_name props supers
    ≡ Ok (
      reply.Added e.service_type.incarnation,
      with_type (repository entries interfaces last)
          (entry_type e),
    ))
    × AreEntries (entries ++ e ∷ []) interfaces e.service_type.incarnation
    × (has_type (map entry_type entries) e.service_type.name ≡ false)
IsPrepared entries interfaces last name if_name props supers (Err (User f)) =
    add_type (repository entries interfaces last) name if_name props supers ≡ refuse f
IsPrepared entries interfaces last name if_name props supers (Err Full) =
    add_type (repository entries interfaces last) name if_name props supers ≡ Err Full
IsPrepared entries interfaces last name if_name props supers (Err Memory) = Unit {0}

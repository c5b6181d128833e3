-- What is kept of each type besides the type itself: its ancestors and its full properties, so that neither is
-- looked for again.
use Rattle.std.specs.Prelude.{◌≡◌, ℕ, Bool, ◌||◌, List, map}
use Rattle.std.specs.List.{AllByRecursion}
use Rattle.std.specs.Str.{bytes_eq}
use Rattle.td_types.specs.declared.entry.TypeEntry.{TypeEntry}
use Rattle.td_value.specs.declared.structures.TypeStruct.{TypeStruct}
use Rattle.td_types.specs.Conforming.{ancestors}
use Rattle.td_types.specs.Descriptions.{description}
use Rattle.td_types.specs.Properties.{full_properties}
use Rattle.td_types.specs.Repository.{Repository, InterfaceBases, ServiceType, IsRepository, is_among}

abbrev pub entry_type : TypeEntry → ServiceType
entry_type e = e.service_type

-- as the type is described in full, by what is kept
abbrev pub kept_description : TypeEntry → TypeStruct
kept_description e = record (description (entry_type e)) {
  props = e.full;
  super_types =
      e.ancestors;
}

-- the entry's type conforms to the type of this name
abbrev pub is_below : List ℕ → TypeEntry → Bool
is_below base e = bytes_eq e.service_type.name base || is_among base e.ancestors

-- the repository of these entries
abbrev pub repository : List TypeEntry → InterfaceBases → ℕ → Repository
repository entries interfaces last = record {
  types = map entry_type entries;
  interfaces = interfaces;
  last = last;
}

-- the entry keeps what its type has among these types
pub record IsValidEntry (types : List ServiceType) (e : TypeEntry) : Type 0 where
  pub ancestors : e.ancestors ≡ ancestors types e.service_type.name
  pub full : e.full ≡ full_properties types e.service_type.name

-- the entries of a repository that calls can make
pub record AreEntries (entries : List TypeEntry) (interfaces : InterfaceBases) (last : ℕ) :
    Type 0 where
  pub valid : IsRepository (repository entries interfaces last)
  pub kept : AllByRecursion (IsValidEntry (map entry_type entries)) entries

-- What a removal looks at among the entries, and what it leaves (interface
-- CosTradingRepos::ServiceTypeRepository, remove_type and mask_type).
use Rattle.std.specs.Prelude.{ℕ, Bool, not, ◌&&◌, if◌then◌else◌, List, find, filter, map, Option}
use Rattle.td_types.specs.declared.entry.TypeEntry.{TypeEntry}
use Rattle.td_types.specs.Kept.{entry_type}
use Rattle.td_types.specs.Repository.{is_named, is_among}

-- the first other entry that has this name among its ancestors
abbrev pub sub_entry : List TypeEntry → List ℕ → Option TypeEntry
sub_entry entries name = find (λ e. not (is_named name (entry_type e)) && is_among name e.ancestors)
    entries

-- the entries that have other names
abbrev pub without_entry : List TypeEntry → List ℕ → List TypeEntry
without_entry entries name = filter (λ e. not (is_named name (entry_type e))) entries

-- the entries, with the mask of this name set so
abbrev pub masked_entry : List ℕ → Bool → TypeEntry → TypeEntry
masked_entry name masked e =
    if is_named name (entry_type e) then record e
    { service_type = record e.service_type { masked = masked } } else e

abbrev pub with_mask : List TypeEntry → List ℕ → Bool → List TypeEntry
with_mask entries name masked = map (masked_entry name masked) entries

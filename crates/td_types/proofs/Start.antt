-- The repository of no types.
use Rattle.std.proofs.Common.{◌≡◌, List, [], arith}
use Rattle.td_types.specs.declared.entry.TypeEntry.{TypeEntry}
use Rattle.td_types.specs.Kept.{AreEntries, repository}
use Rattle.td_types.specs.Repository.{InterfaceBases, IsWellFounded, IsRepository}

pub no_types : (interfaces : InterfaceBases) → IsRepository (repository [] interfaces 0)
no_types interfaces = record { founded = IsWellFounded.none; counted = omega arith }

pub no_entries : (entries : List TypeEntry) (interfaces : InterfaceBases) → entries ≡ [] → AreEntries entries interfaces 0
no_entries entries interfaces e = rw e (record { valid = no_types interfaces; kept = tt })

pub no_types_in : (entries : List TypeEntry) (interfaces : InterfaceBases) → entries ≡ []
    → IsRepository (repository entries interfaces 0)
no_types_in entries interfaces e = rw e (no_types interfaces)

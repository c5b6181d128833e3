use Rattle.std.proofs.Common.{◌≡◌, ◌++◌, drop, map}
use Rattle.std.specs.List.{filter}
use Rattle.td_types.specs.Calls.{is_listed}
use Rattle.td_types.specs.Kept.{entry_type}
use Rattle.td_types.proofs.listing.listed.Given as goal

-- the names so far and those of what is left are those of all
abbrev pub invariant-loop-entry : goal.invariant-loop-entry
invariant-loop-entry l =
    l.names ++ map (λ t. t.name) (filter (is_listed l.since) (map entry_type (drop l.entry-index l.entries)))
    ≡ map (λ t. t.name) (filter (is_listed l.since) (map entry_type l.entries))

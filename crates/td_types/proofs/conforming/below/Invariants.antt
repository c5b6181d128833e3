use Rattle.std.proofs.Common.{◌≡◌, ◌++◌, drop, map}
use Rattle.std.specs.List.{filter}
use Rattle.td_types.specs.Kept.{is_below}
use Rattle.td_types.proofs.conforming.below.Given as goal

-- the numbers so far and those of what is left are those of all
abbrev pub invariant-loop-entry : goal.invariant-loop-entry
invariant-loop-entry l =
    l.numbers ++ map (λ e. e.service_type.incarnation) (filter (is_below l.base) (drop l.entry-index l.entries))
    ≡ map (λ e. e.service_type.incarnation) (filter (is_below l.base) l.entries)

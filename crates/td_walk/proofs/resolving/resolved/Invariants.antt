use Rattle.std.proofs.Common.{◌≡◌, ◌++◌, drop}
use Rattle.std.specs.List.{filter_map}
use Rattle.td_walk.specs.Resolving.{resolved_property}
use Rattle.td_walk.proofs.resolving.resolved.Given as goal

-- what is resolved and what is left make what all make
abbrev pub invariant-loop-property : goal.invariant-loop-property
invariant-loop-property l =
    l.resolved ++ filter_map (resolved_property l.made) (drop l.property-index l.properties)
    ≡ filter_map (resolved_property l.made) l.properties

use Rattle.std.proofs.Common.{◌≡◌, ◌++◌, drop}
use Rattle.td_register.specs.Registers.{static_properties}
use Rattle.td_modify.proofs.withdrawing.static_properties.Given as goal

-- those so far and those of what is left are those of all
abbrev pub invariant-loop-property : goal.invariant-loop-property
invariant-loop-property l =
    l.kept ++ static_properties (drop l.property-index l.properties) ≡ static_properties l.properties

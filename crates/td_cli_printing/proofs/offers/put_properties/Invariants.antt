use Rattle.std.proofs.Common.{◌≡◌, ◌++◌, drop}
use Rattle.td_cli_printing.specs.Offers.{property_lines}
use Rattle.td_cli_printing.proofs.offers.put_properties.Given as goal

-- with what is left, it makes what all makes
abbrev pub invariant-loop-property : goal.invariant-loop-property
invariant-loop-property l =
    l.out.items ++ property_lines (drop l.property-index l.properties)
    ≡ l.initial.out.items ++ property_lines l.properties

use Rattle.std.proofs.Common.{◌≡◌, drop}
use Rattle.td_types.specs.Properties.{property_named}
use Rattle.td_types.proofs.lookup.property_named.Given as goal

abbrev pub invariant-loop-property : goal.invariant-loop-property
invariant-loop-property l = property_named (drop l.property-index l.props) l.name ≡ property_named l.props l.name

use Rattle.std.proofs.Common.{◌≡◌, drop}
use Rattle.td_types.specs.Properties.{has_property}
use Rattle.td_types.proofs.inheriting.has_property.Given as goal

abbrev pub invariant-loop-property : goal.invariant-loop-property
invariant-loop-property l = has_property (drop l.property-index l.props) l.name ≡ has_property l.props l.name

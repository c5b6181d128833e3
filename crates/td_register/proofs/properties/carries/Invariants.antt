use Rattle.std.proofs.Common.{◌≡◌, drop}
use Rattle.td_register.specs.Properties.{carries}
use Rattle.td_register.proofs.properties.carries.Given as goal

abbrev pub invariant-loop-property : goal.invariant-loop-property
invariant-loop-property l = carries (drop l.property-index l.properties) l.name ≡ carries l.properties l.name

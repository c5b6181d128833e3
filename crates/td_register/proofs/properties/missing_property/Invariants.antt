use Rattle.std.proofs.Common.{◌≡◌, drop}
use Rattle.td_register.specs.Properties.{missing_property}
use Rattle.td_register.proofs.properties.missing_property.Given as goal

abbrev pub invariant-loop-declared : goal.invariant-loop-declared
invariant-loop-declared l = missing_property (drop l.declared-index l.demanded) l.properties ≡ missing_property l.demanded l.properties

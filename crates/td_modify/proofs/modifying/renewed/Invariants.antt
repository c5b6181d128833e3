use Rattle.std.proofs.Common.{◌≡◌, drop}
use Rattle.td_register.specs.Registers.{replacement_of}
use Rattle.td_modify.proofs.modifying.renewed.Given as goal

abbrev pub invariant-loop-other : goal.invariant-loop-other
invariant-loop-other l = replacement_of (drop l.other-index l.changed) l.property ≡ replacement_of l.changed l.property

use Rattle.std.proofs.Common.{◌≡◌, drop}
use Rattle.td_cdr.specs.Format.{upwards}
use Rattle.td_typecode.specs.EdgeLayers.{has_number}
use Rattle.td_typecode.specs.ValueLayers.{first_labelled}
use Rattle.td_typecode.proofs.nodes.arm_of.Given as goal

abbrev pub invariant-loop-arm : goal.invariant-loop-arm
invariant-loop-arm l =
    first_labelled (has_number l.numbers) l.default l.label l.arm (drop l.arm (upwards 0 l.count))
    ≡ first_labelled (has_number l.numbers) l.default l.label 0 (upwards 0 l.count)

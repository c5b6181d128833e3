use Rattle.std.proofs.Common.{true, take}
use Rattle.td_types.specs.Adding.{definitions}
use Rattle.td_types.specs.Firsts.{AreFirsts}
use Rattle.td_types.proofs.redefining.own_definitions.Given as goal

abbrev pub invariant-loop-property : goal.invariant-loop-property
invariant-loop-property l = AreFirsts l.firsts (definitions l.name true (take l.property-index l.props))

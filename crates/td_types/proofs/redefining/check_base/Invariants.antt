use Rattle.std.proofs.Common.{◌≡◌, List, ◌++◌, false, take, drop}
use Rattle.td_types.specs.Adding.{Definition, definitions, redefinition}
use Rattle.td_types.specs.Firsts.{AreFirsts}
use Rattle.td_types.proofs.redefining.check_base.Given as goal

abbrev pub invariant-loop-property : goal.invariant-loop-property
invariant-loop-property l =
    (earlier : List Definition) → AreFirsts l.fn.firsts earlier →
    AreFirsts l.firsts (earlier ++ definitions l.base.service_type.name false (take l.property-index l.base.full))
    × (redefinition (earlier ++ definitions l.base.service_type.name false (take l.property-index l.base.full))
    (definitions l.base.service_type.name false (drop l.property-index l.base.full))
    ≡ redefinition earlier (definitions l.base.service_type.name false l.base.full))

use Rattle.std.proofs.Common.{◌≡◌, ◌++◌, drop, not}
use Rattle.std.specs.List.{filter}
use Rattle.td_value.specs.declared.structures.Property.{Property}
use Rattle.td_register.specs.Properties.{carries}
use Rattle.td_modify.proofs.modifying.add_new.Given as goal

-- those so far and those of what is left are all of them
abbrev pub invariant-loop-property : goal.invariant-loop-property
invariant-loop-property l =
    l.all ++ filter (λ (p : Property). not (carries l.properties p.name)) (drop l.property-index l.changed)
    ≡ l.fn.all ++ filter (λ (p : Property). not (carries l.properties p.name)) l.changed

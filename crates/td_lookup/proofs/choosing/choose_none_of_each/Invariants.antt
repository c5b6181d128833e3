use Rattle.std.proofs.Common.{◌≡◌, ◌++◌, drop, map, take}
use Rattle.td_lookup.proofs.choosing.choose_none_of_each.Given as goal
use Rattle.td_lookup.specs.Choosing.{chosen}
use Rattle.td_value.specs.declared.unions.SpecifiedProps.TheVariants as props

-- the offers so far have the properties that are desired, and the others are as they were
abbrev pub invariant-loop-offer : goal.invariant-loop-offer
invariant-loop-offer l =
    l.offer-items
    ≡ map (chosen props.None) (take l.offer-index l.initial.offer-items) ++ drop l.offer-index l.initial.offer-items

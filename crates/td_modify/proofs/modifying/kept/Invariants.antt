use Rattle.std.proofs.Common.{◌≡◌, ◌++◌, drop, map, not}
use Rattle.std.specs.List.{filter}
use Rattle.td_types.specs.Repository.{is_among}
use Rattle.td_value.specs.declared.structures.Property.{Property}
use Rattle.td_register.specs.Registers.{replacement_of}
use Rattle.td_modify.proofs.modifying.kept.Given as goal

-- those so far and those of what is left are those of all
abbrev pub invariant-loop-property : goal.invariant-loop-property
invariant-loop-property l =
    l.kept ++ map (replacement_of l.changed) (filter (λ (p : Property). not (is_among p.name l.deleted)) (drop l.property-index
    l.properties))
    ≡ map (replacement_of l.changed) (filter (λ (p : Property). not (is_among p.name l.deleted)) l.properties)

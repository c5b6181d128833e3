use Rattle.std.proofs.Common.{◌≡◌, ℕ, List, ◌++◌, drop, take, map, reverse}
use Rattle.td_cdr.specs.Seen.{HaveSeen}
use Rattle.td_value.specs.declared.structures.Property.{Property}
use Rattle.td_register.specs.Registers.{changes_cause}
use Rattle.td_modify.proofs.modifying.check_changes.Given as goal

-- for any names that were met before
abbrev pub invariant-loop-property : goal.invariant-loop-property
invariant-loop-property l =
    (deleted : List (List ℕ)) → HaveSeen l.fn.seen deleted →
    HaveSeen l.seen (reverse (map (λ (p : Property). p.name) (take l.property-index l.changed)) ++ deleted)
    × (changes_cause l.supported l.type_properties l.offer
    (reverse (map (λ (p : Property). p.name) (take l.property-index l.changed)) ++ deleted)
    (drop l.property-index l.changed)
    ≡ changes_cause l.supported l.type_properties l.offer deleted l.changed)

use Rattle.std.proofs.Common.{◌≡◌, drop, map}
use Rattle.td_value.specs.declared.structures.Property.{Property}
use Rattle.td_walk.specs.Questions.{made_up_to}
use Rattle.td_walk.specs.Visits.{evaluate_names}
use Rattle.td_walk.proofs.evaluating.evaluate_each.Given as goal

-- the properties that are left make of what was made what all make
abbrev pub invariant-loop-property : goal.invariant-loop-property
invariant-loop-property l =
    (evaluate_names l.properties l.made
    (map (λ (p : Property). p.name) (drop l.property-index l.properties)) l.left.answers.now
    ≡ evaluate_names l.properties l.initial.made (map (λ (p : Property). p.name) l.properties) l.initial.left.answers.now)
    × (made_up_to l.properties l.made
    (map (λ (p : Property). p.name) (drop l.property-index l.properties)) l.left.answers.now
    ≡ made_up_to l.properties l.initial.made (map (λ (p : Property). p.name) l.properties) l.initial.left.answers.now)

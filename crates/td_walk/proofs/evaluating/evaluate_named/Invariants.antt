use Rattle.std.proofs.Common.{◌≡◌, drop}
use Rattle.td_walk.specs.Questions.{made_up_to}
use Rattle.td_walk.specs.Visits.{evaluate_names}
use Rattle.td_walk.proofs.evaluating.evaluate_named.Given as goal

-- the names that are left make of what was made what all make
abbrev pub invariant-loop-name : goal.invariant-loop-name
invariant-loop-name l =
    (evaluate_names l.properties l.made (drop l.name-index l.names) l.left.answers.now
    ≡ evaluate_names l.properties l.initial.made l.names l.initial.left.answers.now)
    × (made_up_to l.properties l.made (drop l.name-index l.names) l.left.answers.now
    ≡ made_up_to l.properties l.initial.made l.names l.initial.left.answers.now)

use Rattle.std.proofs.Common.{◌≡◌, length}
use Rattle.td_visit.specs.Resuming.{completed_up_to}
use Rattle.td_walk.specs.Visits.{all_completed}
use Rattle.td_visit.proofs.searching.complete_each.Given as goal

-- the offers that are left make of those that are complete what all make, and stop where they do
abbrev pub invariant-loop-one : goal.invariant-loop-one
invariant-loop-one l =
    (all_completed l.desired l.completion.complete l.completion.waiting l.left.answers.now
    ≡ all_completed l.desired l.initial.completion.complete l.initial.completion.waiting l.initial.left.answers.now)
    × (completed_up_to l.desired l.completion.complete l.completion.waiting l.left.answers.now
    ≡ completed_up_to l.desired l.initial.completion.complete l.initial.completion.waiting l.initial.left.answers.now)

abbrev pub decreases-loop-one : goal.decreases-loop-one
decreases-loop-one l = length l.completion.waiting

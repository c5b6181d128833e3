use Rattle.std.proofs.Common.{◌≡◌, ◌+◌, drop}
use Rattle.td_visit.specs.Resuming.{searched_on, searched_up_to}
use Rattle.td_visit.proofs.searching.search.Given as goal

-- the candidates that are left make of what was found what all that were left make, and stop where they do
abbrev pub invariant-loop-offer : goal.invariant-loop-offer
invariant-loop-offer l =
    (l.scan.tried ≡ l.initial.scan.tried + l.offer-index)
    × (searched_on l.local (drop l.offer-index l.candidates) l.scan.found l.scan.made l.left.answers.now
    ≡ searched_on l.local l.candidates l.initial.scan.found l.initial.scan.made l.initial.left.answers.now)
    × (searched_up_to l.local (drop l.offer-index l.candidates) l.scan.tried l.scan.found l.scan.made
    l.left.answers.now
    ≡ searched_up_to l.local l.candidates l.initial.scan.tried l.initial.scan.found l.initial.scan.made
    l.initial.left.answers.now)

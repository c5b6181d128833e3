use Rattle.std.proofs.Common.{◌≡◌, ◌+◌, length}
use Rattle.td_visit.specs.Resuming.{IsPlaceInSearch}
use Rattle.td_visit.proofs.questions.ask_others.Given as goal

-- all offers and the links so far are passed by
abbrev pub invariant-loop-link : goal.invariant-loop-link
invariant-loop-link l =
    (l.others.offers ≡ length l.found)
    × (l.others.links ≡ l.initial.others.links + l.link-index)
    × IsPlaceInSearch l.local l.found l.answers l.others

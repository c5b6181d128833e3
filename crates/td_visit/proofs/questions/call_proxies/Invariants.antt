use Rattle.std.proofs.Common.{◌≡◌, ◌+◌}
use Rattle.td_visit.specs.Resuming.{IsPlaceInSearch}
use Rattle.td_visit.proofs.questions.call_proxies.Given as goal

-- the offers so far are passed by
abbrev pub invariant-loop-one : goal.invariant-loop-one
invariant-loop-one l =
    (l.others.offers ≡ l.initial.others.offers + l.one-index) × IsPlaceInSearch l.local l.found l.answers l.others

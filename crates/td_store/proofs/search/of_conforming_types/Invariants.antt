use Rattle.std.proofs.Common.{◌≡◌, ◌++◌, drop, map, Bor}
use Rattle.std.specs.List.{filter}
use Rattle.td_store.specs.Candidates.{has_conforming_type}
use Rattle.td_store.specs.declared.record.OfferRecord.{OfferRecord}
use Rattle.td_store.proofs.search.of_conforming_types.Given as goal

-- those so far and those of what is left are those of all
abbrev pub invariant-loop-offer : goal.invariant-loop-offer
invariant-loop-offer l =
    let now = map (λ (r : Bor OfferRecord). r.now) in
    let test = has_conforming_type l.types.types l.asked in
    now l.found.items ++ filter test (now (drop l.offer-index l.offers)) ≡ filter test (now l.offers)

use Rattle.std.proofs.Common.{◌≡◌, ◌≤◌, ◌-◌, ◌++◌, length, take, drop, map, Bor}
use Rattle.std.specs.List.{filter}
use Rattle.td_store.specs.Candidates.{is_candidate}
use Rattle.td_store.specs.declared.record.OfferRecord.{OfferRecord}
use Rattle.td_store.proofs.search.candidates.Given as goal

-- those so far, and as many more of what is left as may be
abbrev pub invariant-loop-offer : goal.invariant-loop-offer
invariant-loop-offer l =
    let now = map (λ (r : Bor OfferRecord). r.now) in
    let test = is_candidate l.types.types l.attributes l.stated l.asked in
    record {
      few : length l.found ≤ l.count;
      so_far : l.found ++ take (l.count - length l.found) (filter test (now (drop l.offer-index l.offers)))
          ≡ take l.count (filter test (now l.offers));
    }

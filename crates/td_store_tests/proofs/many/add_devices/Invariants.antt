use Rattle.std.proofs.Common.{◌≡◌, ◌<◌, ◌+◌, [], ◌∷◌, length}
use Rattle.std.specs.List.{AllByRecursion, filter}
use Rattle.td_store.specs.Candidates.{is_among}
use Rattle.td_store_tests.proofs.many.add_devices.Given as goal

-- the next number is above all, and all are of Device
abbrev pub invariant-loop-i : goal.invariant-loop-i
invariant-loop-i l = record {
  below : AllByRecursion (λ o. o.number < l.i + 1) l.offers;
  others : length (filter (is_among (2 ∷ 3 ∷ [])) l.offers) ≡ 0;
}

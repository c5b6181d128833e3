use Rattle.std.proofs.Common.{◌≡◌, length}
use Rattle.std.specs.Vec.Iter.{into_iter_items, into_iter_len}
use Rattle.td_file.specs.Openings.{store_after}
use Rattle.td_file.proofs.entering.enter_all.Given as goal
use Rattle.td_trader.specs.OfferLimits.{HasLimitedOffers}

-- what is left makes of the store so far what all entries make of the first one
abbrev pub invariant-loop-one : goal.invariant-loop-one
invariant-loop-one l = record {
  same : store_after l.home l.store (into_iter_items l.one-iterator)
      ≡ store_after l.home l.initial.store (into_iter_items l.initial.one-iterator);
  limited : HasLimitedOffers l.store;
  left : into_iter_len l.one-iterator ≡ length (into_iter_items l.one-iterator);
}

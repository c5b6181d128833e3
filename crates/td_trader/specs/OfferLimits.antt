-- The offers of a store within their limits, as every call on a store may rely on (OMG's Trading Object Service,
-- interface Register, export and modify: IMP_LIMIT past a limit).
use Rattle.std.specs.Prelude.{◌≡◌, ℕ, ◌≤◌, length, List, Ok}
use Rattle.std.specs.List.{AllByRecursion}
use Rattle.td_ops.specs.declared.call.Change.{Change}
use Rattle.td_ops.specs.declared.outcome.Reply.{Reply}
use Rattle.td_store.specs.OfferLists.{NumbersRise}
use Rattle.td_store.specs.Stores.{most_bytes, most_properties, offer_bytes}
use Rattle.td_store.specs.declared.record.OfferRecord.{OfferRecord}
use Rattle.td_register.specs.Stores.{Store}
use Rattle.td_register.specs.declared.history.Accepted.{Accepted}
use Rattle.td_changes.specs.Applying.{comes_to}
use Rattle.td_changes.specs.Histories.{at}
use Rattle.td_changes.specs.Numbering.{AreNumbered}

-- at most 256 properties, and 1 MiB
pub record IsWithinLimits (o : OfferRecord) : Type 0 where
  pub properties : length o.properties ≤ most_properties
  pub bytes : offer_bytes o ≤ most_bytes

-- each offer is, and they stand by rising number, from 1 up to the last one given
pub record HasLimitedOffers (s : Store) : Type 0 where
  pub within : AllByRecursion IsWithinLimits s.offers
  pub rise : NumbersRise s.offers
  pub numbered : AreNumbered s

-- ---- what holds of every change

-- whatever it is given, a change that is accepted keeps them so
abbrev pub ChangesKeepLimits : Type 0
ChangesKeepLimits =
    (s after : Store) (c : Change) (content : Reply) → HasLimitedOffers s
    → comes_to s c ≡ Ok (content, after) → HasLimitedOffers after

-- and so does each history, up to each point
abbrev pub HistoriesKeepLimits : Type 0
HistoriesKeepLimits =
    (opening : Store) (history : List Accepted) (point : ℕ) → HasLimitedOffers opening
    → HasLimitedOffers (at opening history point)

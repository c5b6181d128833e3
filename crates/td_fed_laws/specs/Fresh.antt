-- The identifier of a walk, and that it is fresh (OMG's Trading Object Service, "Policies", request_id).
use Rattle.std.specs.Prelude.{◌≡◌, ℕ, List, slice_get, Some, None}
use Rattle.td_cdr.specs.Marks.{RemembersAs}
use Rattle.td_fed_laws.specs.Traces.{first_searched}
use Rattle.td_ops.specs.declared.call.Query.{Query}
use Rattle.td_trader.specs.Beginning.{searched_under}
use Rattle.td_trader.specs.Queries.{parts_of}
use Rattle.td_trader.specs.Worlds.{View, store_seen}
use Rattle.td_walk.specs.declared.trace.TraceItem.{TraceItem}

-- a trader of the group remembers the identifier, under this number
pub record Remembers (w : List View) (trader : ℕ) (identifier : List ℕ) (number : ℕ) : Type 0 where
  pub view : View
  pub is : slice_get w trader ≡ Some view
  pub held : RemembersAs view.marks identifier number

-- the first trader that a walk searches, as it is seen before the walk
pub record IsFirstSearched (w : List View) (t : List TraceItem) (v : View) : Type 0 where
  pub trader : ℕ
  pub searched : first_searched t ≡ Some trader
  pub is : slice_get w trader ≡ Some v

-- the identifier of a walk: the stated one, or the one that the first trader makes that is searched
pub data GoesUnder (w : List View) (q : Query) (t : List TraceItem) : List ℕ → Type 0 where
  stated_so : {id : List ℕ} → (parts_of q).stated.request_id ≡ Some id → GoesUnder w q t id
  made_so : {v : View} → (parts_of q).stated.request_id ≡ None → IsFirstSearched w t v
      → GoesUnder w q t (searched_under (store_seen v) v.marks q).identifier

-- No trader of the group remembers it before the walk.
abbrev pub IsUnknownIdentifier : List View → Query → List TraceItem → Type 0
IsUnknownIdentifier w q t = (id : List ℕ) → GoesUnder w q t id → (trader number : ℕ)
    → Remembers w trader id number → ⊥

-- What holds of a walk through a group that others use too (OMG's Trading Object Service, "Policies" on request_id, and
-- "Link Follow Behavior").
use Rattle.std.specs.Prelude.{◌≡◌, ℕ, ◌+◌, ◌<◌, List, [], Some, slice_get}
use Rattle.td_cdr.specs.Marks.{RemembersAs, In, Marks}
use Rattle.td_fed.specs.Visiting.{Walks}
use Rattle.td_fed_laws.specs.Arrivals.{Arrival, arrivals, identifier_of, sent}
use Rattle.td_fed_laws.specs.Fresh.{Remembers}
use Rattle.td_fed_laws.specs.Traces.{HasSearch, visited_by}
use Rattle.td_fed_laws.specs.WalkLaws.{NamesSearches, RepeatsExactly, SearchesOnce}
use Rattle.td_ops.specs.declared.call.Query.{Query}
use Rattle.td_register.specs.declared.history.Accepted.{Accepted}
use Rattle.td_trader.specs.Queries.{parts_of}
use Rattle.td_trader.specs.Solos.{no_changes, same_marks}
use Rattle.td_trader.specs.Worlds.{View}
use Rattle.td_walk.specs.declared.trace.Address.{Address}
use Rattle.td_walk.specs.declared.trace.TraceItem.{TraceItem}
use Rattle.td_walk.specs.declared.trace.Visit.{Visit}
use Rattle.td_query_walk.specs.Walks.{WalkState}

-- ---- what is asked of a walk

-- an arrival that visits its trader: it has neither a refusal nor a path
pub record ArrivalVisits (arrived : List Arrival) (a : Arrival) (trader : ℕ) : Type 0 where
  pub is_in : In a arrived
  pub visits : visited_by a.item ≡ Some trader

-- Remembered: between a search of the walk and a later visit of its trader fewer marks were made there than it
-- remembers.
abbrev pub IsRemembered : List Arrival → Type 0
IsRemembered arrived =
    (a : Arrival) (trader mark : ℕ) → ArrivalVisits arrived a trader
    → HasSearch a.before trader mark
    → a.seen.marks.count < mark + a.seen.marks.ring

-- No trader remembers the identifier before the walk, and while no query has gone outside others mark nothing under
-- it: what a trader is seen to remember of it, it was last seen to remember.
pub record IsFreshUnder (w : List View) (gone : ℕ) (arrived : List Arrival)
    (identifier : List ℕ) : Type 0 where
  pub forgotten : (trader number : ℕ) → Remembers w trader identifier number → ⊥
  pub unmarked : (a : Arrival) (number : ℕ) → In a arrived → a.sent ≡ gone
      → RemembersAs a.seen.marks identifier number → RemembersAs a.last.marks identifier number

-- Fresh: only the walk's own sub-queries carry an identifier under which it visits. One that has gone outside may come
-- back to the group, and is another's there.
abbrev pub VisitsOwnIdentifiers : WalkState (List View) → List Arrival → Type 0
VisitsOwnIdentifiers s arrived =
    (a : Arrival) (trader : ℕ) → ArrivalVisits arrived a trader
    → IsFreshUnder s.world (sent s.calls) arrived (identifier_of a)

-- each trader remembers one mark at least
abbrev pub HaveRoom : List View → Type 0
HaveRoom w = (trader : ℕ) (v : View) → slice_get w trader ≡ Some v → 0 < v.marks.ring

-- ---- what holds then

module _ (others : List Accepted → Type 0) (later : Marks → Marks → Type 0) where
  -- where it is remembered, no trader is searched twice
  abbrev pub RememberedWalksSearchOnce : Type 0
  RememberedWalksSearchOnce =
      (home : Address) (s u : WalkState (List View)) (trader : ℕ) (q : Query) (t : List TraceItem)
      (v : Visit) (walk : Walks others later home s trader q t v u)
      → IsRemembered (arrivals [] walk) → SearchesOnce t

  -- where it is fresh, and no query goes outside, a repeat names the mark of an earlier search of its trader
  abbrev pub FreshWalksNameSearches : Type 0
  FreshWalksNameSearches =
      (home : Address) (s u : WalkState (List View)) (trader : ℕ) (q : Query) (t : List TraceItem)
      (v : Visit) (walk : Walks others later home s trader q t v u) → VisitsOwnIdentifiers s
      (arrivals [] walk)
      → sent u.calls ≡ sent s.calls → NamesSearches t

  -- and under both, a visit is a repeat exactly where its trader was searched before
  abbrev pub FreshWalksRepeatExactly : Type 0
  FreshWalksRepeatExactly =
      (home : Address) (s u : WalkState (List View)) (trader : ℕ) (q : Query) (t : List TraceItem)
      (v : Visit) (walk : Walks others later home s trader q t v u) → VisitsOwnIdentifiers s
      (arrivals [] walk)
      → sent u.calls ≡ sent s.calls → IsRemembered (arrivals [] walk) → RepeatsExactly t

  -- a walk whose query states an identifier visits under it
  abbrev pub WalksAreNamed : Type 0
  WalksAreNamed =
      (home : Address) (s u : WalkState (List View)) (trader : ℕ) (q : Query) (t : List TraceItem)
      (v : Visit) (identifier : List ℕ) (walk : Walks others later home s trader q t v u)
      → (parts_of q).stated.request_id ≡ Some identifier → (a : Arrival) (k : ℕ)
      → ArrivalVisits (arrivals [] walk) a k → identifier_of a ≡ identifier

  -- whether stated or made: a walk visits under one identifier
  abbrev pub WalksAreUnderOne : Type 0
  WalksAreUnderOne =
      (home : Address) (s u : WalkState (List View)) (trader : ℕ) (q : Query) (t : List TraceItem)
      (v : Visit) (walk : Walks others later home s trader q t v u) → (a b : Arrival) (j k : ℕ)
      → ArrivalVisits (arrivals [] walk) a j
      → ArrivalVisits (arrivals [] walk) b k → identifier_of a ≡ identifier_of b

-- in a group on which no others act, each walk is remembered
abbrev pub WalksAloneAreRemembered : Type 0
WalksAloneAreRemembered =
    (home : Address) (s u : WalkState (List View)) (trader : ℕ) (q : Query) (t : List TraceItem)
    (v : Visit) (walk : Walks no_changes same_marks home s trader q t v u) → HaveRoom s.world
    → IsRemembered (arrivals [] walk)

-- What holds of a walk through a group on which no others act (OMG's Trading Object Service, "Link Follow Behavior",
-- request_id and hop_count).
use Rattle.std.specs.Prelude.{◌≡◌, ◌≤◌, ◌<◌, ◌+◌, ◌↔◌, ℕ, Option, None, true, List, [], ◌∷◌, ◌++◌, Some, slice_get}
use Rattle.td_cdr.specs.Marks.{Marks}
use Rattle.td_changes.specs.Histories.{at}
use Rattle.td_fed_laws.specs.Fresh.{IsUnknownIdentifier}
use Rattle.td_fed_laws.specs.Traces.{HasSearch, IsSearchedInTrace, first_point, first_searched, hops_behind, is_repeat}
use Rattle.td_fed_laws.specs.Traces.{visited_by, waiting_items}
use Rattle.td_fed.specs.Visiting.{Walks}
use Rattle.td_ops.specs.declared.call.Query.{Query}
use Rattle.td_policy.specs.Effective.{effective_of}
use Rattle.td_register.specs.Stores.{Store}
use Rattle.td_register.specs.declared.history.Accepted.{Accepted}
use Rattle.td_trader.specs.Queries.{parts_of}
use Rattle.td_trader.specs.Solos.{no_changes, same_marks}
use Rattle.td_trader.specs.Worlds.{View}
use Rattle.td_walk.specs.declared.trace.Address.{Address}
use Rattle.td_walk.specs.declared.trace.TraceItem.{TraceItem}
use Rattle.td_walk.specs.declared.trace.TraceItem.TheVariants as item
use Rattle.td_walk.specs.declared.trace.Visit.{Visit}
use Rattle.td_query_walk.specs.Walks.{WalkState}

-- ---- on a trace

-- no trader is searched that was searched before
abbrev pub SearchesOnce : List TraceItem → Type 0
SearchesOnce t =
    (before rest : List TraceItem) (trader point mark : ℕ)
    → t ≡ before ++ item.Search trader point mark ∷ rest → IsSearchedInTrace before trader → ⊥

-- a repeat names the mark of an earlier search of its trader
abbrev pub NamesSearches : List TraceItem → Type 0
NamesSearches t =
    (before rest : List TraceItem) (trader point mark : ℕ)
    → t ≡ before ++ item.Repeat trader point mark ∷ rest → HasSearch before trader mark

-- a visit that has neither a refusal nor a path is a repeat exactly where its trader was searched before
abbrev pub RepeatsExactly : List TraceItem → Type 0
RepeatsExactly t =
    (before rest : List TraceItem) (i : TraceItem) (trader : ℕ) → t ≡ before ++ i ∷ rest
    → visited_by i ≡ Some trader → (is_repeat i ≡ true) ↔ IsSearchedInTrace before trader

-- each search lies at most so many hops below the first
abbrev pub LiesWithin : (hops : ℕ) → List TraceItem → Type 0
LiesWithin hops t =
    (before rest : List TraceItem) (trader point mark : ℕ)
    → t ≡ before ++ item.Search trader point mark ∷ rest → hops_behind before ≤ hops

-- ---- on a walk

-- no trader of the group remembers an identifier
abbrev pub IsUnmarked : List View → Type 0
IsUnmarked w = (trader : ℕ) (v : View) → slice_get w trader ≡ Some v → v.marks.kept ≡ []

-- of each walk whose identifier is fresh
abbrev pub FreshWalks : (List TraceItem → Type 0) → Type 0
FreshWalks P =
    (home : Address) (s u : WalkState (List View)) (trader : ℕ) (q : Query) (t : List TraceItem)
    (v : Visit)
    → Walks no_changes same_marks home s trader q t v u → IsUnknownIdentifier s.world q t → P t

-- the store of the first trader that is searched, at the point of this search
pub record IsSearchedFirst (u : List View) (t : List TraceItem) (store : Store) : Type 0 where
  pub trader : ℕ
  pub searched : first_searched t ≡ Some trader
  pub point : ℕ
  pub pointed : first_point t ≡ Some point
  pub view : View
  pub is : slice_get u trader ≡ Some view
  pub store_is : store ≡ at view.opening view.history point

-- Whatever others do meanwhile: each search lies at most as many hops below the first as this one goes by, at its
-- point.
abbrev pub WalksStayWithinTheirHops : (others : List Accepted → Type 0)
    → (later : Marks → Marks → Type 0) → Type 0
WalksStayWithinTheirHops others later =
    (home : Address) (s u : WalkState (List View)) (trader : ℕ) (q : Query) (t : List TraceItem)
    (v : Visit) (first : Store) → Walks others later home s trader q t v u
    → IsSearchedFirst u.world t first
    → LiesWithin (effective_of (parts_of q).stated first.attributes).hops t

-- whatever others do meanwhile: each search lies at most as many hops below the first as the query states
abbrev pub WalksStayWithinStatedHops : (others : List Accepted → Type 0)
    → (later : Marks → Marks → Type 0) → Type 0
WalksStayWithinStatedHops others later =
    (home : Address) (s u : WalkState (List View)) (trader : ℕ) (q : Query) (t : List TraceItem)
    (v : Visit) (hops : ℕ)
    → Walks others later home s trader q t v u → (parts_of q).stated.hops ≡ Some hops
    → LiesWithin hops t

-- how many marks a trader remembers
abbrev pub ring_in : Option View → ℕ
ring_in None = 0
ring_in (Some v) = v.marks.ring

abbrev pub ring_at : List View → ℕ → ℕ
ring_at w k = ring_in (slice_get w k)

-- the marks of two searches of one trader have numbers that differ by more than it remembers
abbrev pub FarApart : (rings : ℕ → ℕ) → List TraceItem → Type 0
FarApart rings t =
    (before middle rest : List TraceItem) (trader point mark p m : ℕ)
    → t ≡ before ++ item.Search trader point mark ∷ middle ++ item.Search trader p m ∷ rest
    → mark + rings trader < m

-- whatever others mark meanwhile, and whether the query states its identifier or the first trader makes it
abbrev pub WalksSearchFarApart : (others : List Accepted → Type 0)
    → (later : Marks → Marks → Type 0) → Type 0
WalksSearchFarApart others later =
    (home : Address) (s u : WalkState (List View)) (trader : ℕ) (q : Query) (t : List TraceItem)
    (v : Visit)
    → Walks others later home s trader q t v u → FarApart (ring_at s.world) t

-- each visit that begins in a walk, and asks, ends in it
abbrev pub VisitsEnd : (others : List Accepted → Type 0) → (later : Marks → Marks → Type 0) → Type 0
VisitsEnd others later =
    (home : Address) (s u : WalkState (List View)) (trader : ℕ) (q : Query) (t : List TraceItem)
    (v : Visit)
    → Walks others later home s trader q t v u → waiting_items [] t ≡ []

-- Two walks of a query from one course on, whose traces are one, come to one answer and leave one course: a trace shows
-- all that was given.
abbrev pub WalksAreDetermined : Type 0
WalksAreDetermined =
    (home : Address) (s u x : WalkState (List View)) (trader : ℕ) (q : Query) (t : List TraceItem)
    (v z : Visit)
    → Walks no_changes same_marks home s trader q t v u → Walks no_changes same_marks home s trader
    q t z x
    → (v ≡ z) × (u ≡ x)

-- in a group of traders as they are opened every identifier is fresh
abbrev pub UnmarkedGroupsAreFresh : Type 0
UnmarkedGroupsAreFresh = (w : List View) (q : Query) (t : List TraceItem) → IsUnmarked w
    → IsUnknownIdentifier w q t

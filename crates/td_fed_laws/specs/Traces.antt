-- What a trace shows of the traders that were searched, and how far from the first one (OMG's Trading Object Service,
-- "Link Follow Behavior", and "Policies" on request_id and hop_count).
use Rattle.std.specs.Prelude.{ℕ, ◌+◌, Bool, true, false, List, [], ◌∷◌, Option, None, Some}
use Rattle.std.specs.Option.{option_or}
use Rattle.td_cdr.specs.Marks.{In}
use Rattle.td_walk.specs.declared.trace.TraceItem.{TraceItem}
use Rattle.td_walk.specs.declared.trace.TraceItem.TheVariants as item

-- ---- searches

-- a search of the trader is among these items, with this mark
pub record HasSearch (items : List TraceItem) (trader mark : ℕ) : Type 0 where
  pub point : ℕ
  pub there : In (item.Search trader point mark) items

pub record IsSearchedInTrace (items : List TraceItem) (trader : ℕ) : Type 0 where
  pub mark : ℕ
  pub search : HasSearch items trader mark

-- the trader of a visit that searches it
abbrev pub searched_by : TraceItem → Option ℕ
searched_by (item.Search trader point mark) = Some trader
searched_by other = None

-- the first trader that is searched
abbrev pub first_searched : List TraceItem → Option ℕ
first_searched [] = None
first_searched (i ∷ is) = option_or (searched_by i) (first_searched is)

-- the point of a visit that searches its trader, and that of the first one
abbrev pub searched_at : TraceItem → Option ℕ
searched_at (item.Search trader point mark) = Some point
searched_at other = None

abbrev pub first_point : List TraceItem → Option ℕ
first_point [] = None
first_point (i ∷ is) = option_or (searched_at i) (first_point is)

-- the trader of a visit that has neither a refusal nor a path
abbrev pub visited_by : TraceItem → Option ℕ
visited_by (item.Search trader point mark) = Some trader
visited_by (item.Repeat trader point mark) = Some trader
visited_by other = None

abbrev pub is_repeat : TraceItem → Bool
is_repeat (item.Repeat trader point mark) = true
is_repeat other = false

-- ---- hops

-- all visits but the innermost
abbrev pub all_but_innermost : List TraceItem → List TraceItem
all_but_innermost [] = []
all_but_innermost (visit ∷ visits) = visits

-- The visits that have begun and haven't ended behind one more item, the innermost first: a search or a path begins
-- one, and Leave ends the innermost.
abbrev pub waiting_after : List TraceItem → TraceItem → List TraceItem
waiting_after visits (item.Search trader point mark) = item.Search trader point mark ∷ visits
waiting_after visits (item.Path trader point) = item.Path trader point ∷ visits
waiting_after visits item.Leave = all_but_innermost visits
waiting_after visits other = visits

abbrev pub waiting_items : List TraceItem → List TraceItem → List TraceItem
waiting_items visits [] = visits
waiting_items visits (i ∷ is) = waiting_items (waiting_after visits i) is

-- a step of a search is a hop, and one along a path isn't
abbrev pub hops_of : TraceItem → ℕ
hops_of (item.Search trader point mark) = 1
hops_of other = 0

abbrev pub hops_in : List TraceItem → ℕ
hops_in [] = 0
hops_in (visit ∷ visits) = hops_of visit + hops_in visits

-- how many hops below the first search lies what comes behind these items
abbrev pub hops_behind : List TraceItem → ℕ
hops_behind before = hops_in (waiting_items [] before)

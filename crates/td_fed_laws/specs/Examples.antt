-- Worked examples of traces.
use Rattle.std.specs.Prelude.{◌≡◌, true, List, [], ◌∷◌, None, Some, take}
use Rattle.td_fed_laws.specs.Traces.{HasSearch, first_searched, hops_behind, is_repeat, visited_by, waiting_items}
use Rattle.td_fed_laws.specs.WalkLaws.{LiesWithin, NamesSearches, RepeatsExactly, SearchesOnce}
use Rattle.td_walk.specs.declared.trace.TraceItem.{TraceItem}
use Rattle.td_walk.specs.declared.trace.TraceItem.TheVariants as item

-- Trader 3 passes a query on to trader 0 along its path. This one has a link to 1, that one to 2, and 2 back to 0 and
-- on to 4, which refuses the query. The marks are the traders' first, 2's seventh.
abbrev pub cycle : List TraceItem
cycle =
    item.Path 3 0
    ∷ item.Search 0 0 1
    ∷ item.Search 1 5 1
    ∷ item.Search 2 0 7
    ∷ item.Repeat 0 0 1
    ∷ item.Refused 4 0
    ∷ item.Leave
    ∷ item.Leave
    ∷ item.Leave
    ∷ item.Leave
    ∷ []

-- no walk's: a trader that is searched again, and a repeat of what wasn't searched
abbrev pub again : List TraceItem
again = item.Search 0 0 1 ∷ item.Search 0 0 2 ∷ item.Leave ∷ item.Leave ∷ []

abbrev pub unseen_repeat : List TraceItem
unseen_repeat = item.Search 0 0 1 ∷ item.Repeat 1 0 1 ∷ item.Leave ∷ []

pub record WorkedTraces : Type 0 where
  pub first : first_searched cycle ≡ Some 0
  -- the path isn't a hop
  pub at_first : hops_behind (take 1 cycle) ≡ 0
  pub at_second : hops_behind (take 2 cycle) ≡ 1
  pub at_third : hops_behind (take 3 cycle) ≡ 2
  pub at_repeat : hops_behind (take 4 cycle) ≡ 3
  -- every visit ends
  pub ended : waiting_items [] cycle ≡ []
  -- the repeat names the first search's mark; the refused visit is no visit of a trader
  pub named : HasSearch (take 4 cycle) 0 1
  pub repeats : is_repeat (item.Repeat 0 0 1) ≡ true
  pub refused : visited_by (item.Refused 4 0) ≡ None
  -- the third search lies two hops below the first
  pub far : LiesWithin 1 cycle → ⊥
  pub not_once : SearchesOnce again → ⊥
  pub not_a_search : RepeatsExactly again → ⊥
  pub not_named : NamesSearches unseen_repeat → ⊥
  pub not_a_repeat : RepeatsExactly unseen_repeat → ⊥
